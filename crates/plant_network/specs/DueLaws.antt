-- Work that is due can be done, and less is left after it.
use Rattle.std.specs.Prelude.{◌≡◌, ◌<◌, ℕ, true, false, List, [], length}
use Rattle.network_events.specs.plant_model.Types.{As, Hop, NetworkParts}
use Rattle.network_events.specs.plant_model.Blind.{is_accepted}
use Rattle.network_events.specs.plant_model.Events.{Happened, carry, take}
use Rattle.network_events.specs.plant_model.State.{State}
use Rattle.network_events.specs.plant_model.Wire.{Codec}
use Rattle.plant_network.specs.Due.{IsLeast, inbox_of}

-- A take that is refused found nothing, and changes and says nothing.
pub record FoundNothing {P : Type 0} {S : Type 0} (i : ℕ) (s : State P S) (h : Happened P S) : Type 0 where
  pub empty : inbox_of i s ≡ []
  pub state : h.state ≡ s
  pub deeds : h.deeds ≡ []

module _ (P : Type 0) (S : Type 0) (show : S → List Hop) where
  -- A take that is accepted leaves less in the inbox.
  abbrev pub TakesLeaveLess : Type 0
  TakesLeaveLess =
      (c : Codec) (n : NetworkParts) (i : ℕ) (s : State P S)
      → is_accepted (take P S c n show i s).answer ≡ true → length (inbox_of i (take P S c n show i s).state) < length (inbox_of i s)

  abbrev pub RefusedTakesFindNothing : Type 0
  RefusedTakesFindNothing =
      (c : Codec) (n : NetworkParts) (i : ℕ) (s : State P S) → is_accepted (take P S c n show i s).answer ≡ false → FoundNothing i s (take P S c n show i s)

  -- The message of the least pair can be carried.
  abbrev pub LeastIsCarried : Type 0
  LeastIsCarried =
      (c : Codec) (n : NetworkParts) (a b : As) (s : State P S) → IsLeast n s (a, b) → is_accepted (carry P S c n show a b s).answer ≡ true
