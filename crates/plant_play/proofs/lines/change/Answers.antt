use Rattle.std.specs.Arc.{arc_value}
use Rattle.plant_network.specs.plant_model.declared.event.Event.TheVariants as event
use Rattle.plant_network.specs.Topologies.{whole}
use Rattle.plant_play.specs.Making.{DoesLine, playing}
use Rattle.plant_play.specs.Playing.{PlaysChange, PlaysOne}
use Rattle.plant_play.proofs.LineLemmas.{changed}
use Rattle.plant_play.proofs.ShownLemmas.{if_ok}
use Rattle.plant_play.proofs.lines.change.Goals as goal

pub returns-clause-plays : goal.returns-clause-plays
returns-clause-plays c =
    let old = whole c.args.plant.now in
    let new = whole c.play_event.new.plant in
    let b0 = c.args.into.now in
    let b1 = c.play_event.new.into in
    let at = c.args.at in
    let g = c.in_ok-changed.changed in
    if_ok
    (DoesLine old (PlaysOne c.args.line (playing c.args.modes old) (event.Load at g)) new b0 b1)
    (DoesLine old (PlaysChange c.args.line (playing c.args.modes old) at c.args.file.now) new b0 b1)
    c.play_event.result
    (λ answer.
    changed c.args.line c.args.modes old new at c.args.file.now c.in_ok-changes.changes c.as_slice.result.now
    (record { number = c.in-Some._number; topology = arc_value c.in-Some.topology }) c.deref.result.now g answer b0 b1
    c.in_ok-changes.ensures.reads (rw c.in-Some.is at c.in_ok-_number.ensures) c.as_slice.ensures c.deref.ensures c.in_ok-changed.ensures.built
    c.in_ok-changed.ensures.rules c.in_ok-changed.ensures.order)
    c.play_event.ensures.plays
