use Rattle.std.proofs.Common.{ap, subst, true, refl}
use Rattle.std.specs.Prelude.{Result}
use Rattle.std.proofs.lemmas.Result.{err_from_is_err_and}
use Rattle.pce_common.specs.plant_model.declared.outcome.Outcome.TheVariants.{Drained}
use Rattle.pce_common.specs.plant_model.declared.outcome.Refused.{Refused}
use Rattle.pce_common.specs.plant_model.Events as events
use Rattle.pce_common.specs.plant_model.RealWire.{wire}
use Rattle.network_links.specs.declared.peers.Drained.{Drained as Handed}
use Rattle.network_links.specs.Carried.{flow_of}
use Rattle.network_links.specs.Flow.{Flow}
use Rattle.network_links.specs.Happenings.{DrainsIn}
use Rattle.network_events.specs.Standing.{here}
use Rattle.network_events.proofs.FeedLaws.{drain_done, drain_refused, drain_roomy, drains_err, drains_ok}
use Rattle.network_events.proofs.StepLemmas.{cleared_of, refused_moves, same_grows, still_moves}
use Rattle.network_events.proofs.feeding.drain.Goals as goal

pub returns-in_err-drained : goal.returns-in_err-drained
returns-in_err-drained g c =
    let m = g.M.Members in
    let s = m.stands c.args._members.now in
    let start = flow_of c.args.traffic.now in
    let end = flow_of c.drain.new.self in
    let why = c.in_err-drained.field-0.0 in
    let p = err_from_is_err_and c.from_residual.result c.from_residual.ensures.1 in
    let drains = subst (λ (r : Result Handed Refused). DrainsIn c.args.peer c.args.holder start r end) c.in_err-drained.was c.drain.ensures in
    rw (p.1, p.2) (refused_moves m.show (λ n st. events.drain m.Pin m.Key wire n m.show c.args.peer c.args.holder st) (here s start) end (λ st. true) why c.requires.sound.kept
    (same_grows start end (drains_err c.args.peer c.args.holder start end why drains)) (λ lacks. refl)
    (drain_refused m.show s.network s.seen c.args.peer c.args.holder start end why drains))

pub returns : goal.returns
returns g c =
    let m = g.M.Members in
    let s = m.stands c.args._members.now in
    let start = flow_of c.args.traffic.now in
    let drained = flow_of c.drain.new.self in
    let end = flow_of c.clear_said.new.self in
    let d = c.in_ok-drained.drained in
    let drains = subst (λ (r : Result Handed Refused). DrainsIn c.args.peer c.args.holder start r drained) c.in_ok-drained.was c.drain.ensures in
    let is = drains_ok c.args.peer c.args.holder start drained d drains in
    still_moves m.show (λ n st. events.drain m.Pin m.Key wire n m.show c.args.peer c.args.holder st) (here s start) end (λ st. true) (Drained d.bytes d.ended)
    (record {
      of = cleared_of s.network start drained end (ap (λ (f : Flow). f.adjacencies) is.is) (ap (λ (f : Flow). f.peers) is.is) c.clear_said.ensures c.requires.sound.kept.of;
      none = c.requires.sound.kept.none;
      roomy = drain_roomy m.show s.network s.seen c.args.peer start drained end is c.clear_said.ensures c.requires.sound.kept.roomy;
    })
    (drain_done m.show s.network s.seen c.args.peer c.args.holder start drained end d drains c.clear_said.ensures)
