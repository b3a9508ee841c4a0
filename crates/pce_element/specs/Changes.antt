-- An element after a planned change, and when the change may be made.
use Rattle.std.specs.Prelude.{◌≡◌, ◌≤◌, ◌+◌, ℕ, false, List, [], ◌∷◌, length, Option, Some, None}
use Rattle.pce_common.specs.plant_model.Types.{Peer, Branch}
use Rattle.request_table.specs.Pending.{Pending, number_of, item_of, is_full, opened_of, closed_of}
use Rattle.request_table.specs.Lends.{written_of}
use Rattle.path_keys.specs.Keys.{Keys, live_most, live_at, issue_of}
use Rattle.pce_common.specs.plant_model.Element as element
use Rattle.pce_common.specs.plant_model.Element.{Element, Item, Way, Taken, at_stage, ended, is_ready, with_last}
use Rattle.pce_element.specs.declared.accepted.Stage.{Stage}
use Rattle.pce_element.specs.declared.accepted.Stage.TheVariants.{Waits, Ready}
use Rattle.pce_element.specs.declared.change.Change.{Change}
use Rattle.pce_element.specs.declared.change.Change.TheVariants.{Nothing, Opens, Readies, Ends, Solves}
use Rattle.pce_element.specs.declared.change.Draft.{Draft}
use Rattle.pce_element.specs.Items.{new_item}
use Rattle.pce_element.specs.Seen.{Seen}

-- the id of a request that waits is the last one of its way
abbrev pub ways_after : Stage → List Way → List Way
ways_after (Waits on id) ways = with_last on id ways
ways_after (Ready branches) ways = ways

abbrev pub readied_item : {P : Type 0} → ℕ → List Branch → Pending (Item P) → Option (Item P) → Pending (Item P)
readied_item number branches pending None = pending
readied_item number branches pending (Some item) = written_of pending number (at_stage (element.Ready branches) item)

abbrev pub readied : {P : Type 0} → ℕ → List Branch → Pending (Item P) → Pending (Item P)
readied number branches pending = readied_item number branches pending (item_of pending number)

abbrev pub all_closed : {P : Type 0} → List ℕ → Pending (Item P) → Pending (Item P)
all_closed [] pending = pending
all_closed (n ∷ ns) pending = all_closed ns (closed_of pending n)

abbrev pub all_ended : {P : Type 0} {S : Type 0} → List ℕ → Element P S → Element P S
all_ended ns k = record k { pending = all_closed ns k.pending }

abbrev pub all_issued : {S : Type 0} → ℕ → List S → Keys S → Keys S
all_issued now [] keys = keys
all_issued now (s ∷ ss) keys = all_issued now ss (issue_of keys now s)

-- the element after a change, where this pin is the current one
abbrev pub changed : {P : Type 0} {S : Type 0} {D : Type 0} → P → Change D S → Element P S → Element P S
changed current Nothing k = k
changed current (Opens peer id opening) k = record k { pending = opened_of k.pending peer id (new_item opening current); ways = ways_after opening.stage k.ways }
changed current (Readies number branches) k = record k { pending = readied number branches k.pending }
changed current (Ends numbers) k = all_ended numbers k
changed current (Solves number solved now segments) k = ended number (record k { keys = all_issued now.0 segments k.keys })

-- what was solved, in a change that answers it
abbrev pub solved_in : {S : Type 0} {D : Type 0} → Change D S → Option D
solved_in (Solves number solved now segments) = Some solved
solved_in _ = None

pub record MayIssue {S : Type 0} (keys : Keys S) (now : ℕ) (segments : List S) : Type 0 where
  pub clock : keys.clock ≤ now
  pub free : length (live_at keys now) + length segments ≤ live_most

pub record MayOpen {P : Type 0} {S : Type 0} (s : Seen P S) (peer : Peer) (id : ℕ) : Type 0 where
  pub new : number_of s.losing.element.pending peer id ≡ None
  pub fits : is_full s.losing.element.pending ≡ false

-- the request of a number can't be solved yet
abbrev pub IsWaiting : {P : Type 0} {S : Type 0} → Seen P S → ℕ → Type 0
IsWaiting {P} s number = (i : Item P) → item_of s.losing.element.pending number ≡ Some i → is_ready i.stage ≡ false

-- the change is one of this element
abbrev pub Fits : {P : Type 0} {S : Type 0} {D : Type 0} → Seen P S → Change D S → Type 0
Fits s Nothing = Unit {0}
Fits s (Opens peer id opening) = MayOpen s peer id
Fits s (Readies number branches) = IsWaiting s number
Fits s (Ends numbers) = Unit {0}
Fits s (Solves number solved now segments) = MayIssue s.losing.element.keys now.0 segments

-- there is memory for it
abbrev pub HasRoom : {P : Type 0} {S : Type 0} {D : Type 0} → Seen P S → Change D S → Type 0
HasRoom s (Opens peer id opening) = 1 ≤ s.room.requests
HasRoom s (Solves number solved now segments) = length segments ≤ s.room.keys
HasRoom s _ = Unit {0}

-- A draft is one of this element, and makes this of it.
pub record IsDraft {P : Type 0} {S : Type 0} {D : Type 0} (s : Seen P S) (taken : Taken P S) (d : Draft D S) : Type 0 where
  pub fits : Fits s d.change
  pub unsolved : solved_in d.change ≡ None
  pub element : changed s.current d.change s.losing.element ≡ taken.element
  pub outputs : d.outputs ≡ taken.outputs
