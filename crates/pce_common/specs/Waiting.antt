-- Requests that wait for the answers of a peer, and numbers of requests that end.
use Rattle.std.specs.Prelude.{◌≡◌, ◌≤◌, ◌==◌, ℕ, Bool, true, cond, List, [], length, map, filter, Option, Some, None}
use Rattle.std.specs.BTreeMap.{get}
use Rattle.std.specs.BTreeSet.{BTreeSet, contains}
use Rattle.std.specs.List.{AllByRecursion}
use Rattle.std.specs.Ordering.{nat_cmp}
use Rattle.plant_model.specs.Types.{Held}
use Rattle.plant_model.specs.Plant.{has_number}
use Rattle.pce_common.specs.declared.waiters.Waiter.{Waiter}
use Rattle.pce_common.specs.declared.waiters.Waiter.TheVariants.{One, Several}
use Rattle.pce_common.specs.declared.waiters.Waiters.{Waiters}

-- ---- who waits

-- who waits for the answer to an id, where anybody does
abbrev pub waiter_at : Waiters → ℕ → Option Waiter
waiter_at waiters id = get nat_cmp waiters.by_id id

-- with one more, of a number
abbrev pub one_more : ℕ → Option Waiter → Waiter
one_more n None = One n
one_more n (Some (One m)) = cond (m == n) (One n) Several
one_more n (Some Several) = Several

-- what is said of an id is true of the numbers of those who wait for its answer
abbrev pub IsSaidOf : List ℕ → Option Waiter → Type 0
IsSaidOf numbers None = numbers ≡ []
IsSaidOf numbers (Some (One n)) = (1 ≤ length numbers) × AllByRecursion (λ m. m ≡ n) numbers
IsSaidOf numbers (Some Several) = 2 ≤ length numbers

-- so it is for each id
abbrev pub AreSaidOf : (ℕ → List ℕ) → Waiters → Type 0
AreSaidOf numbers_at waiters = (id : ℕ) → IsSaidOf (numbers_at id) (waiter_at waiters id)

-- the numbers of the requests that wait for the answer to an id
abbrev pub numbers_waiting : {T : Type 0} → (ℕ → ℕ × Held T → Bool) → List (ℕ × Held T) → ℕ → List ℕ
numbers_waiting waits rows id = map (λ h. h.0) (filter (waits id) rows)

-- ---- numbers that end

-- where they may be many, the set has them, and no others
abbrev pub AreSorted : Bool → List ℕ → BTreeSet ℕ → Type 0
AreSorted many numbers sorted = many ≡ true → (n : ℕ) → contains nat_cmp sorted n ≡ has_number n numbers
