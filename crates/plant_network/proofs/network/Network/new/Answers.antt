use Rattle.std.proofs.Common.{◌≡◌, List, refl, sym, ap, subst}
use Rattle.network_events.specs.plant_model.Types.{As, Hop, NetworkParts}
use Rattle.plant_text.specs.Networks.{ObeysRules}
use Rattle.network_events.specs.plant_model.Events.{opening}
use Rattle.network_events.specs.plant_model.RealWire.{wire}
use Rattle.network_events.specs.pce_common.Membership.{Membership}
use Rattle.network_members.specs.Fresh.{begun}
use Rattle.network_members.specs.Tiers.{members_of}
use Rattle.plant_network.specs.Beginning.{AreBare}
use Rattle.plant_network.specs.Held.{held, whole}
use Rattle.plant_network.proofs.network.Network.new.Goals as goal

-- members that are those of the model's beginning are so whatever they pin
are_bare : {P : Type 0} {S : Type 0} (first : As → P) (show : S → List Hop) (n : NetworkParts) (ms : Membership P S) → ms ≡ begun first show n → AreBare n show ms
are_bare first show n ms is = subst (AreBare n show) (sym is) (record { elements = refl; parent = refl })

pub begin-requires-clause-rules : goal.begin-requires-clause-rules
begin-requires-clause-rules g c = subst ObeysRules (sym c.in_ok-members.ensures.network) c.parts.ensures.rules

pub begin-requires-clause-new : goal.begin-requires-clause-new
begin-requires-clause-new g c =
    are_bare g.W.World.first g.W.World.show c.in_ok-members.members.network (members_of g.W.World.first c.in_ok-members.members)
    (subst (λ (n : NetworkParts). members_of g.W.World.first c.in_ok-members.members ≡ begun g.W.World.first g.W.World.show n) (sym c.in_ok-members.ensures.network) c.in_ok-members.ensures.begun)

pub invariant_of-result : goal.invariant_of-result
invariant_of-result g c = c.in_ok-begin.ensures.sound

pub returns : goal.returns
returns g c =
    let h = held c.in_ok-members.members c.begin.new.traffic in
    let first : (members_of g.W.World.first h.members).current ≡ g.W.World.first = ap (λ (ms : Membership _ _). ms.current) c.in_ok-members.ensures.begun in (
      c.in_ok-members.ensures.network,
      subst (λ (n : NetworkParts). (whole g.W.World.first h).state ≡ (opening _ _ wire n g.W.World.show g.W.World.first).state) c.in_ok-members.ensures.network
          (subst (λ (f : As → _). (whole g.W.World.first h).state ≡ (opening _ _ wire h.members.network g.W.World.show f).state) first c.in_ok-begin.ensures.state),
      c.in_ok-begin.ensures.said,
    )
