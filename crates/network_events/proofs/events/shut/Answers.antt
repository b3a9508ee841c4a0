use Rattle.std.proofs.Common.{◌≡◌, ◌<◌, ◌∙◌, true, false, sym, ap, subst, length, arith}
use Rattle.pce_common.specs.plant_model.Types.{As, Outside}
use Rattle.pce_common.specs.plant_model.declared.outcome.Outcome.TheVariants.{Done}
use Rattle.pce_common.specs.plant_model.declared.outcome.Refused.TheVariants.{NoSuchPeer}
use Rattle.pce_common.specs.plant_model.Events as events
use Rattle.pce_common.specs.plant_model.RealWire.{wire}
use Rattle.network_links.specs.Carried.{flow_of}
use Rattle.network_links.specs.Flow.{Flow}
use Rattle.pce_common.specs.Membership.{is_member, lost_at}
use Rattle.network_events.specs.Standing.{here}
use Rattle.network_events.proofs.EventLaws.{shut_done, shut_none}
use Rattle.network_events.proofs.LossEvents.{open_below, room_to_shut, shut_roomy}
use Rattle.network_events.proofs.StepLemmas.{done_moves, unmoved}
use Rattle.network_events.proofs.events.shut.Goals as goal

pub returns-then-not-is_open : goal.returns-then-not-is_open
returns-then-not-is_open g c =
    let m = g.M.Members in
    let s = m.stands c.args.members.now in
    unmoved m.show (λ n st. events.shut m.Pin m.Key wire n m.show c.args.peer st) (here s (flow_of c.args.traffic.now)) (λ st. false) NoSuchPeer c.requires.sound.kept (λ e. cc)
    (shut_none m.show s.network c.args.peer s.seen (flow_of c.args.traffic.now) (sym c.is_open.ensures ∙ c.if-not-is_open.true))

pub fall-requires-clause-member : goal.fall-requires-clause-member
fall-requires-clause-member g c =
    let n = (g.M.Members.stands c.args.members.now).network in
    let sound = c.requires.sound in
    let below : c.args.peer < length n.peers = omega (arith, sound.kept.of.peers_are, open_below c.args.traffic.now c.args.peer (sym c.is_open.ensures ∙ c.if-not-is_open.false)) in
    subst (λ (a : As). is_member n a ≡ true) (sym c.element_of-at.ensures) (sound.joined.peers c.args.peer below)

pub fall-requires-clause-none : goal.fall-requires-clause-none
fall-requires-clause-none g c = c.requires.sound.kept.none

pub fall-requires-clause-room : goal.fall-requires-clause-room
fall-requires-clause-room g c =
    let n = (g.M.Members.stands c.args.members.now).network in
    let sound = c.requires.sound in
    let below : c.args.peer < length n.peers = omega (arith, sound.kept.of.peers_are, open_below c.args.traffic.now c.args.peer (sym c.is_open.ensures ∙ c.if-not-is_open.false)) in
    let member = subst (λ (a : As). is_member n a ≡ true) (sym c.element_of-at.ensures) (sound.joined.peers c.args.peer below) in
    room_to_shut n c.element_of-at.result c.args.peer (g.M.Members.stands c.args.members.now).seen (flow_of c.args.traffic.now) (flow_of c.clear_said.new.self) member c.clear_said.ensures sound.kept.roomy

pub returns : goal.returns
returns g c =
    let m = g.M.Members in
    let s = m.stands c.args.members.now in
    let t = m.stands c.fall.new.members in
    let start = flow_of c.args.traffic.now in
    let cleared = flow_of c.clear_said.new.self in
    let fallen = flow_of c.fall.new.traffic in
    let end = flow_of c.shut.new.self in
    let sound = c.requires.sound in
    let open' = sym c.is_open.ensures ∙ c.if-not-is_open.false in
    let below : c.args.peer < length s.network.peers = omega (arith, sound.kept.of.peers_are, open_below c.args.traffic.now c.args.peer open') in
    done_moves m.show (λ n st. events.shut m.Pin m.Key wire n m.show c.args.peer st) (here s start) (here t end) c.fall.ensures.goes.network
    (record {
      adjacencies_are = ap (λ (f : Flow). f.adjacencies) c.shut.ensures ∙ c.fall.ensures.goes.adjacencies ∙ ap (λ (f : Flow). f.adjacencies) c.clear_said.ensures.kept ∙ sound.kept.of.adjacencies_are;
      peers_are = ap (λ (f : Flow). f.peers) c.shut.ensures ∙ c.fall.ensures.goes.peers ∙ ap (λ (f : Flow). f.peers) c.clear_said.ensures.kept ∙ sound.kept.of.peers_are;
    })
    (c.fall.ensures.goes.lost sound.kept.none)
    (shut_roomy s.network m.show c.args.peer c.element_of-at.result t.network s.seen t.seen s.lost t.lost start cleared fallen end
    c.element_of-at.ensures (sound.joined.peers c.args.peer below) c.clear_said.ensures sound.kept.roomy c.fall.ensures.goes c.shut.ensures)
    (λ st. false) Done
    (shut_done m.show s.network c.args.peer c.element_of-at.result t.network s.seen t.seen s.lost t.lost (lost_at c.element_of-at.result (Outside c.args.peer) s.seen) start cleared fallen end
    open' c.element_of-at.ensures c.clear_said.ensures c.fall.ensures.tells c.fall.ensures.goes c.shut.ensures)
