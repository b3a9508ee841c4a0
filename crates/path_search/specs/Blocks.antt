-- Costs as numbers, in blocks of 32, each with its least: a number is the cost times 32, and the place in the block.
use Rattle.std.specs.Prelude.{◌≡◌, ◌<◌, ◌≤◌, ◌+◌, ◌*◌, ◌/◌, ◌%◌, ◌^◌, ℕ, List, Bool, true, false, length, map, nat_lt, None, Some, slice_index_or}
use Rattle.std.specs.declared.option.Option.{Option}
use Rattle.path_search.specs.declared.blocks.TheConstants.{NOTHING}
use Rattle.path_search.specs.declared.waiting.Waiting.TheInside.{Inside}

-- the number at a place
abbrev pub num_at : List ℕ → ℕ → ℕ
num_at numbers i = slice_index_or numbers i NOTHING

-- the cost that a number stands for; the last one stands for none
abbrev pub cost_if : Bool → ℕ → Option ℕ
cost_if true n = Some (n / 32)
cost_if false n = None

abbrev pub shown_cost : ℕ → Option ℕ
shown_cost n = cost_if (nat_lt n NOTHING) n

-- no number is less, and one of them is as small if it stands for a cost
pub record IsLeastNumber (numbers : List ℕ) (least : ℕ) : Type 0 where
  pub no_more : (i : ℕ) → least ≤ num_at numbers i
  pub stands : least < NOTHING → (i : ℕ) × (num_at numbers i ≡ least)

-- a number stands among the 32 from a place on
pub record StandsFrom (numbers : List ℕ) (start number : ℕ) : Type 0 where
  pub place : ℕ
  pub from : start ≤ place
  pub to : place < start + 32
  pub at : num_at numbers place ≡ number

-- the least of these
pub record IsLeastFrom (numbers : List ℕ) (start least : ℕ) : Type 0 where
  pub no_more : (i : ℕ) → start ≤ i → i < start + 32 → least ≤ num_at numbers i
  pub stands : least < NOTHING → StandsFrom numbers start least

-- these 32, or as many as there are
pub record IsBlock (numbers : List ℕ) (start : ℕ) (block : List ℕ) : Type 0 where
  pub few : length block ≤ 32
  pub within : start + length block ≤ length numbers
  pub same : (i : ℕ) → i < 32 → num_at block i ≡ num_at numbers (start + i)

-- each block has its least
pub record AreBlocks (costs least : List ℕ) : Type 0 where
  pub enough : length costs ≤ length least * 32
  pub no_further : length least * 32 ≤ length costs + 32
  pub each : (b : ℕ) → b < length least → IsLeastFrom costs (b * 32) (num_at least b)

-- a number that stands for a cost tells its place in the block
abbrev pub AreMarked : List ℕ → Type 0
AreMarked costs = (i : ℕ) → num_at costs i < NOTHING → num_at costs i % 32 ≡ i % 32

pub record HoldsBlocks (w : Inside) : Type 0 where
  pub blocks : AreBlocks w.costs.items w.least.items
  pub marked : AreMarked w.costs.items
  pub short : length w.costs.items < 2 ^ 31

-- the costs that wait
abbrev pub costs_of : Inside → List (Option ℕ)
costs_of w = map shown_cost w.costs.items
