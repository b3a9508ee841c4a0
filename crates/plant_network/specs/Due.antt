-- The work that is left in a network when no event comes from outside, for any kind of pins and keys.
use Rattle.std.specs.Prelude.{◌≡◌, ℕ, Bool, true, false, not, List, [], All, Contains, Option, Some, None}
use Rattle.network_events.specs.plant_model.Types.{As, NetworkParts}
use Rattle.plant_text.specs.Settings.{adjacencies}
use Rattle.network_events.specs.plant_model.Names.{is_empty}
use Rattle.network_events.specs.plant_model.State.{Connection, State}
use Rattle.network_events.specs.plant_model.Wire.{Bytes}
use Rattle.network_events.specs.network_links.Waiting.{IsAtMost, ways}

abbrev pub inbox_from : Option Connection → List (Option Bytes)
inbox_from None = []
inbox_from (Some x) = x.inbox

module _ {P : Type 0} {S : Type 0} where
  -- a message is on its way from one to the other
  abbrev pub has_mail : State P S → As × As → Bool
  has_mail s p = not (is_empty (s.queues p.0 p.1))

  -- of the pairs of sender and receiver between which messages are on their way it is the least
  pub record IsLeast (n : NetworkParts) (s : State P S) (p : As × As) : Type 0 where
    pub there : Contains (ways (adjacencies n)) p
    pub waits : has_mail s p ≡ true
    pub least : All (λ q. has_mail s q ≡ true → IsAtMost p q) (ways (adjacencies n))

  -- no message is on its way
  abbrev pub IsSettled : NetworkParts → State P S → Type 0
  IsSettled n s = All (λ q. has_mail s q ≡ false) (ways (adjacencies n))

  -- what came from an outside peer and is not yet taken
  abbrev pub inbox_of : ℕ → State P S → List (Option Bytes)
  inbox_of i s = inbox_from (s.accesses i).connection
