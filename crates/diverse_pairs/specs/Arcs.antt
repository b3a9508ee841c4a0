-- Arcs between places of nodes: at most one for each link, at the link's place.
use Rattle.std.specs.Prelude.{◌≡◌, ◌<◌, ◌≤◌, ℕ, Bool, true, false, List, Some, None, slice_index_or}
use Rattle.std.specs.declared.option.Option.{Option}
use Rattle.te_links.specs.declared.limits.TheConstants.{METRIC_MAX}
use Rattle.diverse_pairs.specs.declared.arcs.Arc.{Arc}

-- the arc at a place
abbrev pub IsArc : List (Option Arc) → ℕ → Arc → Type 0
IsArc arcs i a = slice_index_or arcs i None ≡ Some a

-- the number at a place
abbrev pub at : List ℕ → ℕ → ℕ
at numbers n = slice_index_or numbers n 0

-- whether the arc at a place is in use
abbrev pub is_used : List Bool → ℕ → Bool
is_used in_use i = slice_index_or in_use i false

-- an arc between n nodes
pub record IsAmong (n : ℕ) (a : Arc) : Type 0 where
  pub tail : a.tail < n
  pub head : a.head < n
  pub heavy : 1 ≤ a.weight

abbrev pub AreAmong : ℕ → List (Option Arc) → Type 0
AreAmong n arcs = (i : ℕ) (a : Arc) → IsArc arcs i a → IsAmong n a

-- an arc in use begins at the node
pub record HasArcFrom (arcs : List (Option Arc)) (in_use : List Bool) (n : ℕ) : Type 0 where
  pub place : ℕ
  pub arc : Arc
  pub is_arc : IsArc arcs place arc
  pub used : is_used in_use place ≡ true
  pub tail : arc.tail ≡ n

-- the weights are those of links
abbrev pub AreLight : List (Option Arc) → Type 0
AreLight arcs = (i : ℕ) (a : Arc) → IsArc arcs i a → a.weight ≤ METRIC_MAX
