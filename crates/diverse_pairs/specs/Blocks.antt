-- Distances in blocks of 8 and in groups of 64, each with the place of a least one.
use Rattle.std.specs.Prelude.{◌≡◌, ◌<◌, ◌≤◌, ◌+◌, ◌*◌, ℕ, List, length}
use Rattle.te_links.specs.declared.limits.TheConstants.{NODES_MAX}
use Rattle.diverse_pairs.specs.declared.waiting.Waiting.TheInside.{Inside}
use Rattle.diverse_pairs.specs.Arcs.{at}

-- the place is in the block, where so many places are a block
pub record IsInBlock (size block i : ℕ) : Type 0 where
  pub from : block * size ≤ i
  pub to : i < block * size + size

-- a least distance of the block stands there
pub record IsNearestIn (size : ℕ) (distances : List ℕ) (block place : ℕ) : Type 0 where
  pub below : place < length distances
  pub inside : IsInBlock size block place
  pub least : (i : ℕ) → i < length distances → IsInBlock size block i → at distances place ≤ at distances i

-- each block has its place
pub record AreNearest (size : ℕ) (distances places : List ℕ) : Type 0 where
  pub enough : length distances ≤ length places * size
  pub no_further : length places * size < length distances + size
  pub each : (b : ℕ) → b < length places → IsNearestIn size distances b (at places b)

-- the places of the first of n nodes in each block of 8
pub record AreFirstPlaces (n : ℕ) (places : List ℕ) : Type 0 where
  pub enough : n ≤ length places * 8
  pub no_further : length places * 8 < n + 8
  pub each : (b : ℕ) → b < length places → at places b ≡ b * 8

pub record HoldsNearest (w : Inside) : Type 0 where
  pub nearest : AreNearest 8 w.distances.items w.nearest.items
  pub groups : AreNearest 64 w.distances.items w.groups.items
  pub short : length w.distances.items ≤ NODES_MAX

abbrev pub waiting_of : Inside → List ℕ
waiting_of w = w.distances.items
