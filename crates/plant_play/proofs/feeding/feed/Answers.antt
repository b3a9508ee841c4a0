use Rattle.std.proofs.Common.{sym}
use Rattle.plant_network.specs.Topologies.{whole}
use Rattle.plant_play.proofs.FeedLemmas.{feed_refused, feed_taken}
use Rattle.plant_play.proofs.feeding.feed.Goals as goal

pub returns-then-is_err-clause-plays : goal.returns-then-is_err-clause-plays
returns-then-is_err-clause-plays c =
    feed_refused c.args.line c.args.modes (whole c.args.plant.now) c.args.peer c.args.bytes c.in_ok-answer.answer (whole c.done.new.plant) c.args.into.now c.write_answer.new.into
    (sym c.if-is_err.ensures.value) c.in_ok-answer.ensures.makes c.in_ok-write_answer.ensures

pub returns-clause-plays : goal.returns-clause-plays
returns-clause-plays c =
    feed_taken c.args.line c.args.modes (whole c.args.plant.now) c.args.peer c.args.bytes c.in_ok-answer.answer (whole c.done.new.plant) (whole c.take_all.new.plant) c.args.into.now c.take_all.new.into
    c.write_answer-2.new.into (sym c.if-is_err.ensures.value) c.in_ok-answer.ensures.makes c.in_ok-take_all.ensures.plays c.in_ok-write_answer-2.ensures
