use Rattle.std.proofs.Common.{ap, subst}
use Rattle.std.specs.Prelude.{Result}
use Rattle.std.proofs.lemmas.Result.{err_from_is_err_and}
use Rattle.pce_common.specs.plant_model.declared.outcome.Outcome.TheVariants.{Done}
use Rattle.pce_common.specs.plant_model.declared.outcome.Refused.{Refused}
use Rattle.pce_common.specs.plant_model.Events as events
use Rattle.pce_common.specs.plant_model.RealWire.{wire}
use Rattle.pce_common.specs.plant_model.Wire.{Bytes}
use Rattle.network_links.specs.Carried.{flow_of}
use Rattle.network_links.specs.Flow.{Flow}
use Rattle.network_links.specs.Happenings.{FeedsIn}
use Rattle.network_events.specs.Standing.{here}
use Rattle.network_events.proofs.FeedLaws.{feed_done, feed_refused, feed_roomy, feeds_err, feeds_lack, feeds_ok}
use Rattle.network_events.proofs.StepLemmas.{cleared_of, refused_moves, same_grows, still_moves}
use Rattle.network_events.proofs.feeding.feed.Goals as goal

pub returns-in_err-feed : goal.returns-in_err-feed
returns-in_err-feed g c =
    let m = g.M.Members in
    let s = m.stands c.args._members.now in
    let start = flow_of c.args.traffic.now in
    let end = flow_of c.feed.new.self in
    let why = c.in_err-feed.field-0.0 in
    let p = err_from_is_err_and c.from_residual.result c.from_residual.ensures.1 in
    let feeds = subst (λ (r : Result (Unit {0}) Refused). FeedsIn c.args.peer c.args.piece start r end) c.in_err-feed.was (subst (λ (bytes : Bytes). FeedsIn c.args.peer bytes start c.feed.result end) c.as_slice.ensures c.feed.ensures) in
    rw (p.1, p.2) (refused_moves m.show (λ n st. events.feed m.Pin m.Key wire n m.show c.args.peer c.args.piece st) (here s start) end (λ st. events.takes_feed (st.accesses c.args.peer).connection) why c.requires.sound.kept
    (same_grows start end (feeds_err c.args.peer c.args.piece start end why feeds)) (feeds_lack c.args.peer c.args.piece start end why feeds)
    (feed_refused m.show s.network s.seen c.args.peer c.args.piece start end why feeds))

pub returns : goal.returns
returns g c =
    let m = g.M.Members in
    let s = m.stands c.args._members.now in
    let start = flow_of c.args.traffic.now in
    let fed = flow_of c.feed.new.self in
    let end = flow_of c.clear_said.new.self in
    let feeds = subst (λ (r : Result (Unit {0}) Refused). FeedsIn c.args.peer c.args.piece start r fed) c.in_ok-feed.was (subst (λ (bytes : Bytes). FeedsIn c.args.peer bytes start c.feed.result fed) c.as_slice.ensures c.feed.ensures) in
    let is = feeds_ok c.args.peer c.args.piece start fed feeds in
    still_moves m.show (λ n st. events.feed m.Pin m.Key wire n m.show c.args.peer c.args.piece st) (here s start) end (λ st. events.takes_feed (st.accesses c.args.peer).connection) Done
    (record {
      of = cleared_of s.network start fed end (ap (λ (f : Flow). f.adjacencies) is) (ap (λ (f : Flow). f.peers) is) c.clear_said.ensures c.requires.sound.kept.of;
      none = c.requires.sound.kept.none;
      roomy = feed_roomy m.show s.network s.seen c.args.peer c.args.piece start fed end is c.clear_said.ensures c.requires.sound.kept.roomy;
    })
    (feed_done m.show s.network s.seen c.args.peer c.args.piece start fed end feeds c.clear_said.ensures)
