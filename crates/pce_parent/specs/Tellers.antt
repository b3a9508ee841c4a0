-- A child that tells something of requests.
use Rattle.std.specs.Prelude.{ℕ, Bool, List, Option, Some, None}
use Rattle.pce_common.specs.Waiting.{AreSaidOf, numbers_waiting}
use Rattle.pce_common.specs.declared.waiters.Waiters.{Waiters}
use Rattle.pce_common.specs.plant_model.Types.{Peer}
use Rattle.pce_common.specs.plant_model.Parent.{AskingRow, among}
use Rattle.pce_parent.specs.declared.tellers.Teller.{Teller}

-- whether a request waits for the answer to an id
abbrev pub waits_under : Peer → ℕ → AskingRow → Bool
waits_under p id h = among p h.1.item.waits id

abbrev pub AreGathered : Peer → List AskingRow → Option Waiters → Type 0
AreGathered p rows None = Unit {0}
AreGathered p rows (Some waiters) = AreSaidOf (numbers_waiting (waits_under p) rows) waiters

-- who waits is gathered of these requests, or of none
abbrev pub Knows : List AskingRow → Teller → Type 0
Knows rows teller = AreGathered teller.peer rows teller.waiters
