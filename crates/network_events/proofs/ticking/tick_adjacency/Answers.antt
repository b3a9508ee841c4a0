use Rattle.std.proofs.Common.{◌≡◌, true, sym, subst, arith}
use Rattle.pce_common.specs.plant_model.Types.{NetworkParts, Inner}
use Rattle.plant_text.specs.Settings.{Adjacency}
use Rattle.network_links.specs.Adjacencies.{adjacency_of}
use Rattle.pcep_session.specs.declared.session.Input.TheVariants as inputs
use Rattle.pce_common.specs.plant_model.RealWire.{wire}
use Rattle.pce_common.specs.plant_model.Deeds as deeds
use Rattle.network_links.specs.Carried.{flow_of}
use Rattle.pce_common.specs.Membership.{is_member}
use Rattle.network_events.specs.Passing.{IsOf}
use Rattle.network_events.specs.Peers.{IsLinkEnd}
use Rattle.network_events.specs.Standing.{here}
use Rattle.network_events.specs.Using.{Uses}
use Rattle.network_events.proofs.RoomyInputs.{fits_input, tick_own}
use Rattle.network_events.proofs.TickingLaws.{adjacency_ends, both_ends, goes_of, session_uses, uses_then}
use Rattle.network_events.proofs.ticking.tick_adjacency.Goals as goal

pub tick_session-requires-clause-there : goal.tick_session-requires-clause-there
tick_session-requires-clause-there g c = record {
  end = (both_ends (g.M.Members.stands c.args.members.now).network (flow_of c.args.traffic.now) c.args.adjacency.0 c.args.adjacency.1 c.requires.lower c.requires.upper c.requires.apart c.requires.linked c.requires.under.of).0;
  member = c.requires.lower;
  none = c.requires.under.none;
}

pub tick_session-requires-clause-fits : goal.tick_session-requires-clause-fits
tick_session-requires-clause-fits g c =
    let n = (g.M.Members.stands c.args.members.now).network in
    let f = flow_of c.args.traffic.now in
    let ends = both_ends n f c.args.adjacency.0 c.args.adjacency.1 c.requires.lower c.requires.upper c.requires.apart c.requires.linked c.requires.under.of in
    fits_input n 4 c.args.adjacency.0 (Inner c.args.adjacency.1) (inputs.Tick c.args.now) (g.M.Members.stands c.args.members.now).seen f ends.0 c.requires.lower c.requires.under.of (omega arith) c.requires.under.keeps (λ s. tick_own s c.args.now)

pub tick_session-requires-2-clause-there : goal.tick_session-requires-2-clause-there
tick_session-requires-2-clause-there g c =
    let f = flow_of c.tick_session.new.traffic in
    record {
      end = subst (λ (m : NetworkParts). IsLinkEnd m f c.args.adjacency.1 c.args.adjacency.0) (sym c.tick_session.ensures.network)
          (both_ends (g.M.Members.stands c.args.members.now).network f c.args.adjacency.0 c.args.adjacency.1 c.requires.lower c.requires.upper c.requires.apart c.requires.linked (goes_of c.tick_session.ensures c.requires.under.of)).1;
      member = subst (λ (m : NetworkParts). is_member m c.args.adjacency.1 ≡ true) (sym c.tick_session.ensures.network) c.requires.upper;
      none = c.tick_session.ensures.lost c.requires.under.none;
    }

pub tick_session-requires-2-clause-fits : goal.tick_session-requires-2-clause-fits
tick_session-requires-2-clause-fits g c =
    let n = (g.M.Members.stands c.args.members.now).network in
    let l = c.args.adjacency.0 in
    let u = c.args.adjacency.1 in
    let f = flow_of c.tick_session.new.traffic in
    let of = goes_of c.tick_session.ensures c.requires.under.of in
    let start = here (g.M.Members.stands c.args.members.now) (flow_of c.args.traffic.now) in
    let then = here (g.M.Members.stands c.tick_session.new.members) f in
    let ends = both_ends n (flow_of c.args.traffic.now) l u c.requires.lower c.requires.upper c.requires.apart c.requires.linked c.requires.under.of in
    let one = session_uses g.M.Members.show c.args.now l (Inner u) start then ends.0 c.requires.lower c.requires.under.of c.tick_session.ensures in
    fits_input n 2 u (Inner l) (inputs.Tick c.args.now) (g.M.Members.stands c.tick_session.new.members).seen f (both_ends n f l u c.requires.lower c.requires.upper c.requires.apart c.requires.linked of).1 c.requires.upper of (omega arith)
    (one.keeps c.requires.under.on.going c.requires.under.on.at 2 c.requires.under.keeps) (λ s. tick_own s c.args.now)

pub returns : goal.returns
returns g c =
    let m = g.M.Members in
    let l = c.args.adjacency.0 in
    let u = c.args.adjacency.1 in
    let x = adjacency_of c.args.adjacency in
    let start = here (m.stands c.args.members.now) (flow_of c.args.traffic.now) in
    let then = here (m.stands c.tick_session.new.members) (flow_of c.tick_session.new.traffic) in
    let end = here (m.stands c.tick_session-2.new.members) (flow_of c.tick_session-2.new.traffic) in
    let is = adjacency_ends l u c.requires.rises in
    let ends = both_ends start.network start.flow l u c.requires.lower c.requires.upper c.requires.apart c.requires.linked c.requires.under.of in
    let of = subst (λ (n : NetworkParts). IsOf n then.flow) (sym c.tick_session.ensures.network) (goes_of c.tick_session.ensures c.requires.under.of) in
    let back = subst (λ (n : NetworkParts). IsLinkEnd n then.flow u l) (sym c.tick_session.ensures.network)
    (both_ends start.network then.flow l u c.requires.lower c.requires.upper c.requires.apart c.requires.linked (goes_of c.tick_session.ensures c.requires.under.of)).1 in
    let one = session_uses m.show c.args.now l (Inner u) start then ends.0 c.requires.lower c.requires.under.of c.tick_session.ensures in
    let two = session_uses m.show c.args.now u (Inner l) then end back (subst (λ (n : NetworkParts). is_member n u ≡ true) (sym one.goes.network) c.requires.upper) of c.tick_session-2.ensures in
    uses_then (λ k. deeds.inner_input m.Pin m.Key wire k m.show x l u (inputs.Tick c.args.now)) (λ k. deeds.inner_input m.Pin m.Key wire k m.show x u l (inputs.Tick c.args.now)) 2 2 start then end
    (subst (λ (y : Adjacency). Uses (λ k. deeds.inner_input m.Pin m.Key wire k m.show y l u (inputs.Tick c.args.now)) 2 start then) is.1 one)
    (subst (λ (y : Adjacency). Uses (λ k. deeds.inner_input m.Pin m.Key wire k m.show y u l (inputs.Tick c.args.now)) 2 then end) is.0 two)
