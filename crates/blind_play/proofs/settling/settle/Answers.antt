use Rattle.plant_network.specs.Blind.{whole}
use Rattle.blind_play.proofs.TurnLemmas.{one_carry}
use Rattle.blind_play.proofs.settling.settle.Goals as goal

pub loop-preserved : goal.loop-preserved
loop-preserved c =
    one_carry c.args.line (whole c.args.plant.now) (whole c.loop.plant) (whole c.play_event.new.plant) c.in-Some.from c.in-Some.to c.args.into.now.items c.loop.into.items c.play_event.new.into.items
    c.in_ok-play_event.field-0 c.loop.invariant c.in-Some.ensures c.in_ok-play_event.ensures
