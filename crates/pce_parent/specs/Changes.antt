-- The parent after a planned change, and when the change may be made.
use Rattle.std.specs.Prelude.{◌≡◌, ◌≤◌, ◌++◌, ℕ, true, false, List, [], ◌∷◌, Option, Some, None}
use Rattle.pce_common.specs.plant_model.Types.{Peer}
use Rattle.request_table.specs.Pending.{Pending, number_of, item_of, is_full, opened_of, closed_of}
use Rattle.request_table.specs.Lends.{written_of}
use Rattle.pce_common.specs.plant_model.declared.upper.ChildRow.{ChildRow}
use Rattle.pce_common.specs.plant_model.Parent.{Parent, Asking, ParentTaken, among, ended, without}
use Rattle.pce_parent.specs.declared.change.Change.{Change}
use Rattle.pce_parent.specs.declared.change.Change.TheVariants.{Nothing, Opens, Gathers, Ends, Solves}
use Rattle.pce_parent.specs.declared.change.Draft.{Draft}
use Rattle.pce_parent.specs.Solution.{BorderSolution}
use Rattle.pce_parent.specs.Seen.{Seen}

-- the answer to an id of a peer has come, with these rows
abbrev pub with_answer : Peer → ℕ → List ChildRow → Asking → Asking
with_answer p y rows i = record i { waits = without p y i.waits; rows = i.rows ++ rows }

abbrev pub answered_item : ℕ → Peer → ℕ → List ChildRow → Pending Asking → Option Asking → Pending Asking
answered_item number p y rows pending None = pending
answered_item number p y rows pending (Some item) = written_of pending number (with_answer p y rows item)

abbrev pub answered_at : ℕ → Peer → ℕ → List ChildRow → Pending Asking → Pending Asking
answered_at number p y rows pending = answered_item number p y rows pending (item_of pending number)

abbrev pub all_closed : List ℕ → Pending Asking → Pending Asking
all_closed [] pending = pending
all_closed (n ∷ ns) pending = all_closed ns (closed_of pending n)

abbrev pub all_ended : List ℕ → Parent → Parent
all_ended ns k = record k { pending = all_closed ns k.pending }

-- the parent after a change
abbrev pub changed : Change → Parent → Parent
changed Nothing k = k
changed (Opens peer id asking ways) k = record { pending = opened_of k.pending peer id asking; ways = ways }
changed (Gathers number peer id rows) k = record k { pending = answered_at number peer id rows k.pending }
changed (Ends numbers) k = all_ended numbers k
changed (Solves solved) k = ended solved.job.number k

-- the solved job that a change holds
abbrev pub solved_in : Change → Option BorderSolution
solved_in (Solves solved) = Some solved
solved_in _ = None

pub record MayOpen (s : Seen) (peer : Peer) (id : ℕ) : Type 0 where
  pub new : number_of s.losing.parent.pending peer id ≡ None
  pub fits : is_full s.losing.parent.pending ≡ false

-- a request that waits for the answer
abbrev pub Waits : Peer → ℕ → Option Asking → Type 0
Waits p y None = Unit {0}
Waits p y (Some item) = among p item.waits y ≡ true

-- the change is one of this parent
abbrev pub Fits : Seen → Change → Type 0
Fits s (Opens peer id asking ways) = MayOpen s peer id
Fits s (Gathers number peer id rows) = Waits peer id (item_of s.losing.parent.pending number)
Fits s _ = Unit {0}

-- there is memory for it
abbrev pub HasRoom : Seen → Change → Type 0
HasRoom s (Opens peer id asking ways) = 1 ≤ s.room
HasRoom s _ = Unit {0}

-- A draft is one of this parent, and makes this of it.
pub record IsDraft (s : Seen) (given : ParentTaken) (d : Draft) : Type 0 where
  pub fits : Fits s d.change
  pub unsolved : solved_in d.change ≡ None
  pub parent : changed d.change s.losing.parent ≡ given.parent
  pub outputs : d.outputs ≡ given.outputs
