use Rattle.plant_network.specs.plant_model.declared.event.Event.TheVariants as event
use Rattle.plant_network.specs.Topologies.{whole}
use Rattle.plant_play.specs.Making.{DoesLine, playing}
use Rattle.plant_play.specs.Playing.{PlaysLoad, PlaysOne}
use Rattle.plant_play.proofs.LineLemmas.{loaded}
use Rattle.plant_play.proofs.ShownLemmas.{if_ok}
use Rattle.plant_play.proofs.lines.load.Goals as goal

pub returns-clause-plays : goal.returns-clause-plays
returns-clause-plays c =
    let old = whole c.args.plant.now in
    let new = whole c.play_event.new.plant in
    let b0 = c.args.into.now in
    let b1 = c.play_event.new.into in
    let at = c.args.at in
    let g = c.in_ok-topology.topology in
    if_ok
    (DoesLine old (PlaysOne c.args.line (playing c.args.modes old) (event.Load at g)) new b0 b1)
    (DoesLine old (PlaysLoad c.args.line (playing c.args.modes old) at c.args.file.now) new b0 b1)
    c.play_event.result
    (λ answer.
    loaded c.args.line c.args.modes old new at c.args.file.now g answer b0 b1 c.in_ok-topology.ensures.reads c.in_ok-topology.ensures.own
    c.in_ok-topology.ensures.rules c.in_ok-topology.ensures.order)
    c.play_event.ensures.plays
