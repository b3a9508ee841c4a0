-- The requests that are pending, in the order of their numbers.
use Rattle.std.specs.Prelude.{◌≡◌, ◌⊎◌, ◌≤◌, ◌<◌, ◌&&◌, ◌||◌, ◌==◌, ◌^◌, ◌-◌, ℕ, ◌+◌, Bool, false, nat_eq, nat_le, slice_get, List, [], ◌∷◌, ◌++◌, length, filter, Option, Some, None, if◌then◌else◌}
use Rattle.std.specs.Option.{option_map}
use Rattle.std.specs.Map.{lookup, remove_entry}
use Rattle.dom_base.specs.declared.names.Peer.{Peer}
use Rattle.dom_base.specs.declared.names.Peer.TheVariants.{Outside, Inner}
use Rattle.request_table.specs.declared.held.RequestKey.{RequestKey}
use Rattle.request_table.specs.declared.held.Held.{Held}
use Rattle.request_table.specs.declared.requests.OpenError.{OpenError}
use Rattle.request_table.specs.declared.requests.OpenError.TheVariants.{Repeat, Full, NoMemory}

-- the requests by number, at most so many, and the last number that was given
pub record Pending (T : Type 0) : Type 0 where
  pub limit : ℕ
  pub given : ℕ
  pub rows : List (ℕ × Held T)

abbrev pub key_of : Peer → ℕ → RequestKey
key_of peer id = record { peer = peer; id = id }

abbrev pub same_peer : Peer → Peer → Bool
same_peer (Outside a) (Outside b) = nat_eq a b
same_peer (Inner a) (Inner b) = nat_eq a.0 b.0
same_peer (Outside a) (Inner b) = false
same_peer (Inner a) (Outside b) = false

abbrev pub same_key : RequestKey → RequestKey → Bool
same_key a b = same_peer a.peer b.peer && nat_eq a.id b.id

-- the number of the request of this peer and id
abbrev pub number_among : {T : Type 0} → RequestKey → List (ℕ × Held T) → Option ℕ
number_among key [] = None
number_among key (row ∷ rows) = if same_key key row.1.key then Some row.0 else number_among key rows

abbrev pub number_of : {T : Type 0} → Pending T → Peer → ℕ → Option ℕ
number_of pending peer id = number_among (key_of peer id) pending.rows

-- what belongs to the request of this number
abbrev pub item_of : {T : Type 0} → Pending T → ℕ → Option T
item_of pending number = option_map (λ held. held.item) (lookup (nat_eq number) pending.rows)

-- how many requests of a peer there are
abbrev pub asked_by : {T : Type 0} → Peer → List (ℕ × Held T) → ℕ
asked_by peer rows = length (filter (λ h. same_peer h.1.key.peer peer) rows)

-- there is no room, or no number, for one more
abbrev pub IsFull : {T : Type 0} → Pending T → Type 0
IsFull pending = (pending.limit ≤ length pending.rows) ⊎ (pending.given ≡ 2 ^ 64 - 1)

abbrev pub is_full : {T : Type 0} → Pending T → Bool
is_full pending = nat_le pending.limit (length pending.rows) || (pending.given == 2 ^ 64 - 1)

-- who sent the request of this number, and under which id
abbrev pub key_at : {T : Type 0} → Pending T → ℕ → Option RequestKey
key_at pending number = option_map (λ held. held.key) (lookup (nat_eq number) pending.rows)

-- the number at a place
abbrev pub nth_of : {T : Type 0} → Pending T → ℕ → Option ℕ
nth_of pending k = option_map (λ row. row.0) (slice_get pending.rows k)

-- how many requests an element may have pending
abbrev pub pending_most : ℕ
pending_most = 1024

-- with one more, and without one
abbrev pub opened_of : {T : Type 0} → Pending T → Peer → ℕ → T → Pending T
opened_of pending peer id item = record pending {
  given = pending.given + 1;
  rows = pending.rows ++ (pending.given + 1, record { key = key_of peer id; item = item }) ∷ [];
}

abbrev pub closed_of : {T : Type 0} → Pending T → ℕ → Pending T
closed_of pending number = record pending { rows = remove_entry (nat_eq number) pending.rows }

-- the item that a refusal hands back
abbrev pub handed_back : {T : Type 0} → OpenError T → T
handed_back (Repeat item) = item
handed_back (Full item) = item
handed_back (NoMemory item) = item

-- the numbers rise from above low up to high
abbrev pub NumbersRise : {T : Type 0} → ℕ → List (ℕ × Held T) → ℕ → Type 0
NumbersRise low [] high = low ≤ high
NumbersRise low (row ∷ rows) high = (low < row.0) × NumbersRise row.0 rows high

-- no peer has two requests of one id
abbrev pub AreNamedOnce : {T : Type 0} → List (ℕ × Held T) → Type 0
AreNamedOnce [] = Unit {0}
AreNamedOnce (row ∷ rows) = (number_among row.1.key rows ≡ None) × AreNamedOnce rows

pub record ArePending {T : Type 0} (pending : Pending T) : Type 0 where
  pub few : length pending.rows ≤ pending.limit
  pub last : pending.given < 2 ^ 64
  pub numbers : NumbersRise 0 pending.rows pending.given
  pub names : AreNamedOnce pending.rows
