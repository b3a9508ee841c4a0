-- What is found by number, by peer and id and by place, after a request is opened and after one is closed.
use Rattle.std.specs.Prelude.{◌≡◌, ◌≢◌, ◌<◌, ◌↔◌, ℕ, ◌+◌, IsTrue, length, Some, None}
use Rattle.dom_base.specs.declared.names.Peer.{Peer}
use Rattle.request_table.specs.declared.held.RequestKey.{RequestKey}
use Rattle.request_table.specs.Pending.{Pending, ArePending, IsFull, is_full, key_of, key_at, number_of, item_of, nth_of, opened_of, closed_of}

-- A request that is opened is found by its number, by its peer and id, and at the last place; the others as before.
pub record Opens {T : Type 0} (table : Pending T) (peer : Peer) (id : ℕ) (item : T) : Type 0 where
  pub own_item : item_of (opened_of table peer id item) (table.given + 1) ≡ Some item
  pub own_key : key_at (opened_of table peer id item) (table.given + 1) ≡ Some (key_of peer id)
  pub own_number : number_of (opened_of table peer id item) peer id ≡ Some (table.given + 1)
  pub own_place : nth_of (opened_of table peer id item) (length table.rows) ≡ Some (table.given + 1)
  pub items : (number : ℕ) → number ≢ table.given + 1 → item_of (opened_of table peer id item) number ≡ item_of table number
  pub keys : (number : ℕ) → number ≢ table.given + 1 → key_at (opened_of table peer id item) number ≡ key_at table number
  pub numbers : (other : Peer) (n : ℕ) → key_of other n ≢ key_of peer id → number_of (opened_of table peer id item) other n ≡ number_of table other n
  pub places : (k : ℕ) → k < length table.rows → nth_of (opened_of table peer id item) k ≡ nth_of table k

-- A request that is closed is not found any more; the others are found as before, those behind it one place further to the front.
pub record Closes {T : Type 0} (table : Pending T) (number : ℕ) (key : RequestKey) : Type 0 where
  pub own_item : item_of (closed_of table number) number ≡ None
  pub own_key : key_at (closed_of table number) number ≡ None
  pub own_number : number_of (closed_of table number) key.peer key.id ≡ None
  pub items : (other : ℕ) → other ≢ number → item_of (closed_of table number) other ≡ item_of table other
  pub keys : (other : ℕ) → other ≢ number → key_at (closed_of table number) other ≡ key_at table other
  pub numbers : (peer : Peer) (id : ℕ) → key_of peer id ≢ key → number_of (closed_of table number) peer id ≡ number_of table peer id
  pub places_before : (k n : ℕ) → nth_of table k ≡ Some n → n < number → nth_of (closed_of table number) k ≡ Some n
  pub places_behind : (k n : ℕ) → nth_of table (k + 1) ≡ Some n → number < n → nth_of (closed_of table number) k ≡ Some n

abbrev pub OpenLaw : Type 0 → Type 0
OpenLaw T = (table : Pending T) (peer : Peer) (id : ℕ) (item : T) → ArePending table → number_of table peer id ≡ None → Opens table peer id item

abbrev pub CloseLaw : Type 0 → Type 0
CloseLaw T = (table : Pending T) (number : ℕ) (key : RequestKey) → ArePending table → key_at table number ≡ Some key → Closes table number key

-- the test tells whether a table is full
abbrev pub FullLaw : Type 0 → Type 0
FullLaw T = (table : Pending T) → IsTrue (is_full table) ↔ IsFull table
