use Rattle.plant_network.specs.Blind.{whole}
use Rattle.blind_play.proofs.LineLemmas.{feed_refused, feed_taken, on_ok}
use Rattle.blind_play.proofs.feeding.feed.Goals as goal

pub returns-then-accepted : goal.returns-then-accepted
returns-then-accepted c =
    on_ok c.take_all.result
    (feed_taken c.args.line c.args.peer c.args.bytes (whole c.args.plant.now) (whole c.play_event.new.plant) (whole c.take_all.new.plant) c.in_ok-accepted.accepted c.args.into.now.items
    c.play_event.new.into.items c.take_all.new.into.items c.if-accepted.true c.in_ok-accepted.ensures)
    c.take_all.ensures

pub returns-else-accepted : goal.returns-else-accepted
returns-else-accepted c =
    feed_refused c.args.line c.args.peer c.args.bytes (whole c.args.plant.now) (whole c.play_event.new.plant) c.in_ok-accepted.accepted c.args.into.now.items c.play_event.new.into.items
    c.if-accepted.false c.in_ok-accepted.ensures
