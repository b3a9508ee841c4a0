-- A network that has just been made.
use Rattle.std.specs.Prelude.{◌≡◌, List, []}
use Rattle.network_events.specs.plant_model.Types.{As, Hop, NetworkParts}
use Rattle.network_events.specs.plant_model.Events.{bare, opening}
use Rattle.network_events.specs.plant_model.RealWire.{wire}
use Rattle.network_events.specs.pce_common.Membership.{Membership}
use Rattle.network_events.specs.Standing.{Here}
use Rattle.network_events.specs.Moving.{IsSound, whole}
use Rattle.network_events.specs.Whole.{Whole}

module _ {P : Type 0} {S : Type 0} where
  -- the members are those of the model's beginning, whatever they pin
  pub record AreBare (n : NetworkParts) (show : S → List Hop) (ms : Membership P S) : Type 0 where
    pub elements : ms.elements ≡ (bare P S wire n show ms.current).elements
    pub parent : ms.parent ≡ (bare P S wire n show ms.current).parent

  -- it is the model's opening state, in which nothing was said
  pub record Begins (show : S → List Hop) (h : Here P S) : Type 0 where
    pub state : (whole h).state ≡ (opening P S wire h.network show h.seen.current).state
    pub said : h.flow.said ≡ []
    pub sound : IsSound h

  -- the same, as its callers see it
  abbrev pub IsBegun : (As → P) → (S → List Hop) → NetworkParts → Whole P S → Type 0
  IsBegun first show n w = (w.network ≡ n) × (w.state ≡ (opening P S wire n show first).state) × (w.said ≡ [])
