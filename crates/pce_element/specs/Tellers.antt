-- A peer that tells something of requests.
use Rattle.std.specs.Prelude.{ℕ, Bool, List, Option, Some, None}
use Rattle.pce_common.specs.Waiting.{AreSaidOf, numbers_waiting}
use Rattle.pce_common.specs.declared.waiters.Waiters.{Waiters}
use Rattle.pce_common.specs.plant_model.Types.{Peer}
use Rattle.pce_common.specs.plant_model.Element.{Row, waits_for}
use Rattle.pce_element.specs.declared.tellers.Teller.{Teller}

-- whether a request waits for the answer to an id
abbrev pub waits_under : {P : Type 0} → Peer → ℕ → Row P → Bool
waits_under p id h = waits_for p id h.1.item.stage

abbrev pub AreGathered : {P : Type 0} → Peer → List (Row P) → Option Waiters → Type 0
AreGathered p rows None = Unit {0}
AreGathered p rows (Some waiters) = AreSaidOf (numbers_waiting (waits_under p) rows) waiters

-- who waits is gathered of these requests, or of none
abbrev pub Knows : {P : Type 0} → List (Row P) → Teller → Type 0
Knows rows teller = AreGathered teller.peer rows teller.waiters
