use Rattle.std.proofs.Common.{Err, [], ◌∷◌, true, refl, ap, sym, subst}
use Rattle.std.proofs.lemmas.Result.{err_from_is_err_and}
use Rattle.pcep_session.specs.declared.actions.Action.TheVariants.{Pass}
use Rattle.network_links.specs.Carried.{flow_of}
use Rattle.network_links.specs.Flow.{Flow, set_session_at}
use Rattle.pce_common.specs.Membership.{Standing}
use Rattle.pce_common.specs.Owed.{asked_in}
use Rattle.network_events.specs.Giving.{PutsAll, RoomToPut}
use Rattle.network_events.specs.Rooms.{IsRoomy}
use Rattle.network_events.specs.Peers.{receive_at}
use Rattle.network_events.specs.Standing.{here}
use Rattle.network_events.specs.Stepping.{Receives}
use Rattle.network_events.proofs.PassRoom.{pass_room, pass_roomy}
use Rattle.network_events.proofs.StepLemmas.{lacks_moves, same_grows}
use Rattle.network_events.proofs.ReceivingLaws.{passed_goes, passing, received, sets_there, taking}
use Rattle.network_events.proofs.receiving.receive_passed.Goals as goal

pub returns-in_err-heeded : goal.returns-in_err-heeded
returns-in_err-heeded g c =
    let m = g.M.Members in
    let f = flow_of c.args.traffic.now in
    let p = err_from_is_err_and c.from_residual.result c.from_residual.ensures.1 in
    rw p.1 (lacks_moves m.show (λ k st. receive_at m.Pin m.Key k m.show c.args.at c.args.to st) (here (m.stands c.args.members.now) f) f (λ st. true) c.requires.kept (same_grows f f refl) refl)

pub returns-in_err-prepared : goal.returns-in_err-prepared
returns-in_err-prepared g c =
    let m = g.M.Members in
    let s = m.stands c.args.members.now in
    let old = here s (flow_of c.args.traffic.now) in
    let made = flow_of c.prepare.new.traffic in
    let p = err_from_is_err_and c.from_residual-in_err-prepared.result c.from_residual-in_err-prepared.ensures.1 in
    rw p.1 (subst (λ (x : Standing _ _). Receives m.show c.args.at c.args.to (Err p.0) old (here x made)) (sym c.prepare.ensures.same)
    (lacks_moves m.show (λ k st. receive_at m.Pin m.Key k m.show c.args.at c.args.to st) old made (λ st. true) c.requires.kept c.prepare.ensures.grows refl))

pub set_session-requires : goal.set_session-requires
set_session-requires g c =
    let ms = (g.M.Members.stands c.args.members.now).seen in
    let x = taking (g.M.Members.stands c.args.members.now).network c.args.traffic.now c.args.at c.args.to (Pass c.args.message ∷ []) c.args.session ms (flow_of c.prepare.new.traffic) (flow_of c.clear_said.new.self) (flow_of c.drop_first.new.self)
    c.requires.there.end c.requires.there.member c.requires.steps c.requires.kept.of c.requires.kept.roomy c.prepare.ensures.grows c.clear_said.ensures c.drop_first.ensures in
    sets_there g.M.Members.show x

pub perform-requires-clause-room : goal.perform-requires-clause-room
perform-requires-clause-room g c =
    let n = (g.M.Members.stands c.args.members.now).network in
    let ms = (g.M.Members.stands c.args.members.now).seen in
    let x = taking (g.M.Members.stands c.args.members.now).network c.args.traffic.now c.args.at c.args.to (Pass c.args.message ∷ []) c.args.session ms (flow_of c.prepare.new.traffic) (flow_of c.clear_said.new.self) (flow_of c.drop_first.new.self)
    c.requires.there.end c.requires.there.member c.requires.steps c.requires.kept.of c.requires.kept.roomy c.prepare.ensures.grows c.clear_said.ensures c.drop_first.ensures in
    let ok = c.in_ok-prepared in
    let mid = g.M.Members.next c.prepare.new.members ok.prepared.plan in
    let letters = ok.prepared.letters.kept in
    let last = set_session_at c.args.at c.args.to c.args.session (flow_of c.drop_first.new.self) in
    let passes = passing g.M.Members.show x c.in_ok-heeded.ensures ok.ensures.given ok.ensures.room in
    subst (RoomToPut letters) (sym c.set_session.ensures) (pass_room n c.args.at c.args.to (asked_in c.in_ok-heeded.heeded) letters ms mid (flow_of c.args.traffic.now) (flow_of c.prepare.new.traffic) last passes)

pub returns : goal.returns
returns g c =
    let n = (g.M.Members.stands c.args.members.now).network in
    let ms = (g.M.Members.stands c.args.members.now).seen in
    let x = taking (g.M.Members.stands c.args.members.now).network c.args.traffic.now c.args.at c.args.to (Pass c.args.message ∷ []) c.args.session ms (flow_of c.prepare.new.traffic) (flow_of c.clear_said.new.self) (flow_of c.drop_first.new.self)
    c.requires.there.end c.requires.there.member c.requires.steps c.requires.kept.of c.requires.kept.roomy c.prepare.ensures.grows c.clear_said.ensures c.drop_first.ensures in
    let ok = c.in_ok-prepared in
    let mid = g.M.Members.next c.prepare.new.members ok.prepared.plan in
    let letters = ok.prepared.letters.kept in
    let last = set_session_at c.args.at c.args.to c.args.session (flow_of c.drop_first.new.self) in
    let passes = passing g.M.Members.show x c.in_ok-heeded.ensures ok.ensures.given ok.ensures.room in
    let puts = subst (λ (y : Flow). PutsAll letters y (flow_of c.perform.new.traffic)) c.set_session.ensures c.perform.ensures.puts in
    received g.M.Members.show x tt
    (passed_goes g.M.Members.show x c.in_ok-heeded.ensures ok.ensures.given (g.M.Members.stands c.prepare.new.members).network (g.M.Members.stands c.perform.new.members).network
    (g.M.Members.stands c.prepare.new.members).seen (g.M.Members.stands c.perform.new.members).seen (g.M.Members.stands c.args.members.now).lost (g.M.Members.stands c.prepare.new.members).lost (g.M.Members.stands c.perform.new.members).lost
    (flow_of c.set_session.new.self) (flow_of c.perform.new.traffic) (ap (λ (x : Standing _ _). x.network) c.prepare.ensures.same) (ap (λ (x : Standing _ _). x.seen) c.prepare.ensures.same) (ap (λ (x : Standing _ _). x.lost) c.prepare.ensures.same) c.set_session.ensures (c.perform.ensures.goes c.args.at c.args.to c.in_ok-heeded.heeded))
    c.requires.kept.none
    (subst (λ y. IsRoomy n y (flow_of c.perform.new.traffic)) (sym (ap (λ (x : Standing _ _). x.seen) c.perform.ensures.next))
    (pass_roomy n c.args.at c.args.to (asked_in c.in_ok-heeded.heeded) letters ms mid (flow_of c.args.traffic.now) (flow_of c.prepare.new.traffic) last passes (flow_of c.perform.new.traffic) puts))
