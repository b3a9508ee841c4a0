use Rattle.std.proofs.Common.{◌≡◌, ◌≤◌, ◌<◌, ◌%◌, ◌∙◌, is_some, true, false, refl, subst, sym, ap, arith, length}
use Rattle.pce_common.specs.plant_model.Types.{As}
use Rattle.pce_common.specs.Membership.{is_member}
use Rattle.pce_common.specs.plant_model.declared.outcome.Outcome.TheVariants.{Done}
use Rattle.pce_common.specs.plant_model.declared.outcome.Refused.TheVariants.{NoSuchPeer}
use Rattle.pce_common.specs.plant_model.RealWire.{wire}
use Rattle.pce_common.specs.plant_model.Events as events
use Rattle.network_links.specs.Carried.{flow_of}
use Rattle.network_links.specs.Flow.{Flow}
use Rattle.network_events.specs.Standing.{here, state_of}
use Rattle.network_events.proofs.OpenLaws.{connected, connected_is, connected_of, connected_roomy, fits_open, on_ok_of, open_done, open_past, open_twice, opened_roomy}
use Rattle.network_events.proofs.RoomySteps.{begins_keeps}
use Rattle.network_events.proofs.StepLemmas.{cleared_of, done_moves, lacks_moves, same_grows, unmoved}
use Rattle.network_events.proofs.opened.open.Goals as goal

pub returns-then-peer-peers : goal.returns-then-peer-peers
returns-then-peer-peers g c =
    let m = g.M.Members in
    let s = m.stands c.args.members.now in
    let past : length s.network.peers ≤ c.args.peer = omega (arith, c.if-peer-peers.true, c.peers.ensures, c.requires.sound.kept.of.peers_are) in
    unmoved m.show (λ n st. events.open_peer m.Pin m.Key wire n m.show c.args.peer c.args.holder st) (here s (flow_of c.args.traffic.now)) (λ st. true) NoSuchPeer c.requires.sound.kept (λ e. cc)
    (open_past m.show s.network c.args.peer c.args.holder s.seen (flow_of c.args.traffic.now) past)

pub returns-then-is_open : goal.returns-then-is_open
returns-then-is_open g c =
    let m = g.M.Members in
    let s = m.stands c.args.members.now in
    unmoved m.show (λ n st. events.open_peer m.Pin m.Key wire n m.show c.args.peer c.args.holder st) (here s (flow_of c.args.traffic.now)) (λ st. true) NoSuchPeer c.requires.sound.kept (λ e. cc)
    (open_twice m.show s.network c.args.peer c.args.holder s.seen (flow_of c.args.traffic.now) (sym c.is_open.ensures ∙ c.if-is_open.true))

pub returns-in_default : goal.returns-in_default
returns-in_default g c =
    let m = g.M.Members in
    let s = m.stands c.args.members.now in
    let start = flow_of c.args.traffic.now in
    let end = flow_of c.connect.new.self in
    lacks_moves m.show (λ n st. events.open_peer m.Pin m.Key wire n m.show c.args.peer c.args.holder st) (here s start) end (λ st. true) c.requires.sound.kept
    (same_grows start end c.in_default.ensures.err) refl

pub give_input-requires-clause-there : goal.give_input-requires-clause-there
give_input-requires-clause-there g c =
    let n = (g.M.Members.stands c.args.members.now).network in
    let below : c.args.peer < length n.peers = omega (arith, c.if-peer-peers.false, c.peers.ensures, c.requires.sound.kept.of.peers_are) in
    record {
      end = c.element_of-at.ensures;
      member = subst (λ (a : As). is_member n a ≡ true) (sym c.element_of-at.ensures) (c.requires.sound.joined.peers c.args.peer below);
      none = c.requires.sound.kept.none;
    }

pub give_input-requires-clause-fits : goal.give_input-requires-clause-fits
give_input-requires-clause-fits g c =
    let s = g.M.Members.stands c.args.members.now in
    let f = flow_of c.args.traffic.now in
    let f1 = flow_of c.connect.new.self in
    let f2 = flow_of c.clear_said.new.self in
    let i = c.args.peer in
    let below : i < length s.network.peers = omega (arith, c.if-peer-peers.false, c.peers.ensures, c.requires.sound.kept.of.peers_are) in
    let shut : is_some (f.accesses i).connection ≡ false = sym c.is_open.ensures ∙ c.if-is_open.false in
    let connects : connected i c.args.holder f f1 = on_ok_of c.connect.result c.in-Ok.field-0 c.in-Ok.is c.connect.ensures.ok in
    let room = on_ok_of c.connect.result c.in-Ok.field-0 c.in-Ok.is c.connect.ensures.room in
    let keeps = begins_keeps s.network s.seen f1 f2 c.clear_said.ensures (connected_roomy g.M.Members.show s.network i c.args.holder s.seen f f1 shut connects room c.requires.sound.kept.roomy) in
    let member = subst (λ (a : As). is_member s.network a ≡ true) (sym c.element_of-at.ensures) (c.requires.sound.joined.peers i below) in
    let of = cleared_of s.network f f1 f2 (ap (λ (x : Flow). x.adjacencies) connects) (ap (λ (x : Flow). x.peers) connects) c.clear_said.ensures c.requires.sound.kept.of in
    fits_open g.M.Members.show s.network i c.args.holder ((f.accesses i).opened % 256) (record { 0 = f.clock }) c.element_of-at.result s.seen f2 c.element_of-at.ensures member of (connected_of i c.args.holder f f1 f2 connects c.clear_said.ensures) (omega (arith, below)) keeps

pub returns : goal.returns
returns g c =
    let m = g.M.Members in
    let s = m.stands c.args.members.now in
    let t = m.stands c.give_input.new.members in
    let f = flow_of c.args.traffic.now in
    let f1 = flow_of c.connect.new.self in
    let f2 = flow_of c.clear_said.new.self in
    let end = flow_of c.give_input.new.traffic in
    let i = c.args.peer in
    let sound = c.requires.sound in
    let below : i < length s.network.peers = omega (arith, c.if-peer-peers.false, c.peers.ensures, sound.kept.of.peers_are) in
    let shut : is_some (f.accesses i).connection ≡ false = sym c.is_open.ensures ∙ c.if-is_open.false in
    let connects : connected i c.args.holder f f1 = on_ok_of c.connect.result c.in-Ok.field-0 c.in-Ok.is c.connect.ensures.ok in
    let room = on_ok_of c.connect.result c.in-Ok.field-0 c.in-Ok.is c.connect.ensures.room in
    let keeps = begins_keeps s.network s.seen f1 f2 c.clear_said.ensures (connected_roomy m.show s.network i c.args.holder s.seen f f1 shut connects room sound.kept.roomy) in
    let going = events.idle m.Pin m.Key wire s.network m.show (events.connect m.Pin m.Key wire s.network m.show i c.args.holder (state_of s.seen f)) in
    let of = cleared_of s.network f f1 f2 (ap (λ (x : Flow). x.adjacencies) connects) (ap (λ (x : Flow). x.peers) connects) c.clear_said.ensures sound.kept.of in
    done_moves m.show (λ n st. events.open_peer m.Pin m.Key wire n m.show i c.args.holder st) (here s f) (here t end) c.give_input.ensures.network
    (record { adjacencies_are = c.give_input.ensures.adjacencies ∙ of.adjacencies_are; peers_are = c.give_input.ensures.peers ∙ of.peers_are })
    (c.give_input.ensures.lost sound.kept.none)
    (opened_roomy m.show s.network i c.args.holder ((f.accesses i).opened % 256) (record { 0 = f.clock }) c.element_of-at.result going t.network s.seen t.seen s.lost t.lost f2 end c.element_of-at.ensures
    (subst (λ (a : As). is_member s.network a ≡ true) (sym c.element_of-at.ensures) (sound.joined.peers i below)) of (connected_of i c.args.holder f f1 f2 connects c.clear_said.ensures) (omega (arith, below))
    c.give_input.ensures (connected_is m.show s.network i c.args.holder s.seen f f1 f2 connects c.clear_said.ensures) keeps)
    (λ st. true) Done
    (open_done m.show s.network i c.args.holder t.network s.seen t.seen s.lost t.lost f f1 f2 end below shut connects c.clear_said.ensures c.give_input.ensures)
