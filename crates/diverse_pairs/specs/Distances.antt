-- Distances to a target over arcs: none can be lowered, and an arc makes each.
use Rattle.std.specs.Prelude.{◌≡◌, ◌⊎◌, ◌<◌, ◌≤◌, ◌+◌, ◌*◌, ◌↔◌, ℕ, Bool, true, List, length, sum, slice_set}
use Rattle.std.specs.declared.option.Option.{Option}
use Rattle.te_links.specs.declared.limits.TheConstants.{NODES_MAX, METRIC_MAX}
use Rattle.diverse_pairs.specs.declared.arcs.Arc.{Arc}
use Rattle.diverse_pairs.specs.declared.arcs.TheConstants.{UNREACHED}
use Rattle.diverse_pairs.specs.Arcs.{IsArc, at, is_used}

-- the way over the arc is no shorter
abbrev pub IsLow : List ℕ → Arc → Type 0
IsLow distances a = at distances a.tail ≤ a.weight + at distances a.head

abbrev pub AreLow : List (Option Arc) → List ℕ → Type 0
AreLow arcs distances = (i : ℕ) (a : Arc) → IsArc arcs i a → IsLow distances a

-- the distance of the arc's tail is lowered to that over the arc
pub record Lowers (a : Arc) (old new : List ℕ) : Type 0 where
  pub better : a.weight + at old a.head < at old a.tail
  pub is : new ≡ slice_set old a.tail (a.weight + at old a.head)

-- the sum of all falls
abbrev pub Falls : List ℕ → List ℕ → Type 0
Falls old new = sum new < sum old

-- the way over an arc from the node is as short as its distance
pub record IsReachedBy (arcs : List (Option Arc)) (distances : List ℕ) (n : ℕ) : Type 0 where
  pub place : ℕ
  pub arc : Arc
  pub is_arc : IsArc arcs place arc
  pub tail : arc.tail ≡ n
  pub no_more : arc.weight + at distances arc.head ≤ at distances n

-- the target has 0, and an arc makes each other distance
pub record AreMade (arcs : List (Option Arc)) (target : ℕ) (distances : List ℕ) : Type 0 where
  pub at_target : at distances target ≡ 0
  pub within : (n : ℕ) → at distances n ≤ UNREACHED
  pub each : (n : ℕ) → n < length distances → at distances n < UNREACHED → (n ≡ target) ⊎ IsReachedBy arcs distances n

pub record AreDistances (arcs : List (Option Arc)) (target : ℕ) (distances : List ℕ) : Type 0 where
  pub made : AreMade arcs target distances
  pub low : AreLow arcs distances

-- over the arc the distance falls by just its weight
pub record IsTight (distances : List ℕ) (a : Arc) : Type 0 where
  pub reached : at distances a.tail < UNREACHED
  pub sum : at distances a.tail ≡ a.weight + at distances a.head

-- the marks are those of the tight arcs
abbrev pub AreTight : List (Option Arc) → List ℕ → List Bool → Type 0
AreTight arcs distances marks = (i : ℕ) (a : Arc) → IsArc arcs i a → (is_used marks i ≡ true) ↔ IsTight distances a

-- a distance, where there is one, is that of a path of links
abbrev pub IsNear : ℕ → Type 0
IsNear d = d < UNREACHED → d ≤ NODES_MAX * METRIC_MAX

abbrev pub AreNear : List ℕ → Type 0
AreNear distances = (n : ℕ) → IsNear (at distances n)
