use Rattle.std.proofs.Common.{◌≡◌, ◌*◌, true, false, ap, sym, subst, ◌∙◌, arith, length}
use Rattle.pce_common.specs.plant_model.Types.{As, Tick, NetworkParts}
use Rattle.plant_text.specs.Names.{same_as}
use Rattle.plant_text.specs.Settings.{has_adjacency, adjacencies}
use Rattle.pce_common.specs.plant_model.declared.outcome.Outcome.TheVariants.{Done}
use Rattle.pce_common.specs.plant_model.Events as events
use Rattle.pce_common.specs.plant_model.RealWire.{wire}
use Rattle.network_links.specs.Carried.{flow_of}
use Rattle.pce_common.specs.Membership.{AreJoined, KeysBefore}
use Rattle.network_events.specs.Rooms.{own_most}
use Rattle.network_events.specs.Standing.{here}
use Rattle.network_events.proofs.SoundLemmas.{keys_before}
use Rattle.network_events.proofs.StepLemmas.{done_moves}
use Rattle.network_events.proofs.TickEvents.{moment_under, tick_done, told_keys, told_roomy}
use Rattle.network_events.proofs.TickingLaws.{under_way}
use Rattle.network_events.proofs.ticking.tick.Goals as goal

pub tick_peers-requires-clause-joined : goal.tick_peers-requires-clause-joined
tick_peers-requires-clause-joined g c = c.requires.sound.joined

pub tick_peers-requires-clause-few : goal.tick_peers-requires-clause-few
tick_peers-requires-clause-few g c = c.requires.sound.few

pub tick_peers-requires-clause-under : goal.tick_peers-requires-clause-under
tick_peers-requires-clause-under g c =
    let s = g.M.Members.stands c.args.members.now in
    moment_under g.M.Members.show c.later-now.result.0 (2 * length s.network.peers) (here s (flow_of c.args.traffic.now)) (flow_of c.clear_said.new.self) (flow_of c.set_clock.new.self) c.clear_said.ensures c.set_clock.ensures
    (omega arith) c.requires.sound.kept

pub tick_adjacencies-requires-clause-joined : goal.tick_adjacencies-requires-clause-joined
tick_adjacencies-requires-clause-joined g c = subst AreJoined (sym c.tick_peers.ensures.goes.network) c.requires.sound.joined

pub tick_adjacencies-requires-clause-apart : goal.tick_adjacencies-requires-clause-apart
tick_adjacencies-requires-clause-apart g c =
    subst (λ (n : NetworkParts). (a b : As) → has_adjacency a b (adjacencies n) ≡ true → same_as a b ≡ false) (sym c.tick_peers.ensures.goes.network) c.requires.sound.apart

pub tick_adjacencies-requires-clause-under : goal.tick_adjacencies-requires-clause-under
tick_adjacencies-requires-clause-under g c =
    let s = g.M.Members.stands c.args.members.now in
    let n = s.network in
    under_way (2 * length n.peers) (4 * length (adjacencies (g.M.Members.stands c.tick_peers.new.members).network)) (own_most n) c.tick_peers.ensures
    (omega (arith, ap (λ (m : NetworkParts). length (adjacencies m)) c.tick_peers.ensures.goes.network))
    (moment_under g.M.Members.show c.later-now.result.0 (own_most n) (here s (flow_of c.args.traffic.now)) (flow_of c.clear_said.new.self) (flow_of c.set_clock.new.self) c.clear_said.ensures c.set_clock.ensures (omega arith) c.requires.sound.kept)

pub expire-requires : goal.expire-requires
expire-requires g c =
    let s = g.M.Members.stands c.args.members.now in
    let f = flow_of c.args.traffic.now in
    let f2 = flow_of c.set_clock.new.self in
    let now_is : c.later-now.result ≡ record { 0 = events.later f.clock c.args.at.0 } = c.later-now.ensures ∙ ap (λ (x : Tick). let y : Tick = record { 0 = events.later x.0 c.args.at.0 } in y) c.clock.ensures in
    let under = moment_under g.M.Members.show c.later-now.result.0 (own_most s.network) (here s f) (flow_of c.clear_said.new.self) f2 c.clear_said.ensures c.set_clock.ensures (omega arith) c.requires.sound.kept in
    told_keys g.M.Members.show c.later-now.result
    (here s f2) (here (g.M.Members.stands c.tick_peers.new.members) (flow_of c.tick_peers.new.traffic)) (here (g.M.Members.stands c.tick_adjacencies.new.members) (flow_of c.tick_adjacencies.new.traffic))
    c.tick_peers.ensures.goes c.tick_adjacencies.ensures.goes under.on (subst (λ (x : Tick). KeysBefore x.0 s.network s.seen) (sym now_is) (keys_before (here s f) c.args.at.0 c.requires.sound))

pub returns : goal.returns
returns g c =
    let m = g.M.Members in
    let s = m.stands c.args.members.now in
    let f = flow_of c.args.traffic.now in
    let f1 = flow_of c.clear_said.new.self in
    let f2 = flow_of c.set_clock.new.self in
    let begun = here s f2 in
    let peers = here (m.stands c.tick_peers.new.members) (flow_of c.tick_peers.new.traffic) in
    let links = here (m.stands c.tick_adjacencies.new.members) (flow_of c.tick_adjacencies.new.traffic) in
    let end = here (m.stands c.expire.new.members) (flow_of c.tick_adjacencies.new.traffic) in
    let one = c.tick_peers.ensures in
    let two = c.tick_adjacencies.ensures in
    let now_is : c.later-now.result ≡ record { 0 = events.later f.clock c.args.at.0 } = c.later-now.ensures ∙ ap (λ (x : Tick). let y : Tick = record { 0 = events.later x.0 c.args.at.0 } in y) c.clock.ensures in
    let under = moment_under m.show c.later-now.result.0 (own_most s.network) (here s f) f1 f2 c.clear_said.ensures c.set_clock.ensures (omega arith) c.requires.sound.kept in
    done_moves m.show (λ n st. events.tick m.Pin m.Key wire n m.show c.args.at.0 st) (here s f) end (c.expire.ensures.network ∙ two.goes.network ∙ one.goes.network)
    (record { adjacencies_are = two.goes.adjacencies ∙ one.goes.adjacencies ∙ under.of.adjacencies_are; peers_are = two.goes.peers ∙ one.goes.peers ∙ under.of.peers_are })
    (c.expire.ensures.lost (two.goes.lost (one.goes.lost under.none)))
    (told_roomy m.show c.later-now.result begun peers links end one two c.expire.ensures under.on under.keeps)
    (λ st. false) Done
    (tick_done m.show c.args.at.0 c.later-now.result f f1 begun peers links end now_is c.clear_said.ensures c.set_clock.ensures one.goes two.goes c.expire.ensures)
