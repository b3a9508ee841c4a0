use Rattle.std.proofs.Common.{◌≡◌, ◌<◌, ◌*◌, ℕ, true, sym, subst, arith, add-one, length}
use Rattle.pce_common.specs.plant_model.Types.{As, NetworkParts, Outside}
use Rattle.pcep_session.specs.declared.session.Input.TheVariants as inputs
use Rattle.pce_common.specs.plant_model.Deeds.{element_of}
use Rattle.network_links.specs.Carried.{flow_of}
use Rattle.pce_common.specs.Membership.{is_member}
use Rattle.network_events.specs.Standing.{here}
use Rattle.network_events.proofs.RoomyInputs.{fits_input, tick_own}
use Rattle.network_events.proofs.TickLaws.{peers_to}
use Rattle.network_events.proofs.TickingLaws.{Until, peer_more, peers_end, peers_fit, session_uses, under_way}
use Rattle.network_events.proofs.ticking.tick_peers.Goals as goal

pub tick_session-requires-clause-fits : goal.tick_session-requires-clause-fits
tick_session-requires-clause-fits g c =
    let n = (g.M.Members.stands c.args.members.now).network in
    let k = c.loop-peer.peer in
    let all = peers_fit n (flow_of c.args.traffic.now) c.peers-count.result c.requires.under.of c.peers-count.ensures c.requires.few in
    let below : k < length n.peers = omega (arith, c.loop-peer-test.true, all, c.requires.under.of.peers_are, c.peers-count.ensures) in
    let now = g.M.Members.stands c.loop-peer.members in
    let member = subst (λ (m : NetworkParts). is_member m (element_of m k) ≡ true) (sym c.loop-peer.invariant.uses.goes.network) (c.requires.joined.peers k below) in
    let under = under_way (2 * k) 2 (2 * length n.peers) c.loop-peer.invariant.uses (omega (arith, below)) c.requires.under in
    fits_input now.network 2 c.element_of-at.result (Outside k) (inputs.Tick c.args.now) now.seen (flow_of c.loop-peer.traffic) c.element_of-at.ensures
    (subst (λ (a : As). is_member now.network a ≡ true) (sym c.element_of-at.ensures) member) under.of (omega arith) under.keeps (λ s. tick_own s c.args.now)

pub tick_session-requires-clause-there : goal.tick_session-requires-clause-there
tick_session-requires-clause-there g c =
    let n = (g.M.Members.stands c.args.members.now).network in
    let k = c.loop-peer.peer in
    let all = peers_fit n (flow_of c.args.traffic.now) c.peers-count.result c.requires.under.of c.peers-count.ensures c.requires.few in
    let below : k < length n.peers = omega (arith, c.loop-peer-test.true, all, c.requires.under.of.peers_are, c.peers-count.ensures) in
    record {
      end = c.element_of-at.ensures;
      member = subst (λ (a : As). is_member (g.M.Members.stands c.loop-peer.members).network a ≡ true) (sym c.element_of-at.ensures)
          (subst (λ (m : NetworkParts). is_member m (element_of m k) ≡ true) (sym c.loop-peer.invariant.uses.goes.network) (c.requires.joined.peers k below));
      none = c.loop-peer.invariant.uses.goes.lost c.requires.under.none;
    }

pub loop-peer-preserved : goal.loop-peer-preserved
loop-peer-preserved g c =
    let n = (g.M.Members.stands c.args.members.now).network in
    let k = c.loop-peer.peer in
    let start = here (g.M.Members.stands c.args.members.now) (flow_of c.args.traffic.now) in
    let now = here (g.M.Members.stands c.loop-peer.members) (flow_of c.loop-peer.traffic) in
    let then = here (g.M.Members.stands c.tick_session.new.members) (flow_of c.tick_session.new.traffic) in
    let all = peers_fit n (flow_of c.args.traffic.now) c.peers-count.result c.requires.under.of c.peers-count.ensures c.requires.few in
    let below : k < length n.peers = omega (arith, c.loop-peer-test.true, all, c.requires.under.of.peers_are, c.peers-count.ensures) in
    let member = subst (λ (m : NetworkParts). is_member m (element_of m k) ≡ true) (sym c.loop-peer.invariant.uses.goes.network) (c.requires.joined.peers k below) in
    let under = under_way (2 * k) 2 (2 * length n.peers) c.loop-peer.invariant.uses (omega (arith, below)) c.requires.under in
    subst (λ (j : ℕ). Until (λ m. peers_to g.M.Members.show m c.args.now j) (2 * j) j (length n.peers) start then) (sym (add-one k))
    (record {
      within = omega (arith, below);
      uses = peer_more g.M.Members.show c.args.now k start now then c.loop-peer.invariant.uses
          (session_uses g.M.Members.show c.args.now c.element_of-at.result (Outside k) now then c.element_of-at.ensures (subst (λ (a : As). is_member now.network a ≡ true) (sym c.element_of-at.ensures) member) under.of c.tick_session.ensures);
    })

pub returns : goal.returns
returns g c =
    let n = (g.M.Members.stands c.args.members.now).network in
    let all = peers_fit n (flow_of c.args.traffic.now) c.peers-count.result c.requires.under.of c.peers-count.ensures c.requires.few in
    let end : c.loop-peer.peer ≡ length n.peers = omega (arith, c.loop-peer-test.false, c.loop-peer.invariant.within, all, c.requires.under.of.peers_are, c.peers-count.ensures) in
    peers_end g.M.Members.show c.args.now c.loop-peer.peer
    (here (g.M.Members.stands c.args.members.now) (flow_of c.args.traffic.now))
    (here (g.M.Members.stands c.loop-peer.members) (flow_of c.loop-peer.traffic))
    end c.loop-peer.invariant.uses
