-- Tight edges, and the one that is chosen.
use Rattle.std.specs.Prelude.{◌≡◌, ◌⊎◌, ◌<◌, ◌+◌, ℕ, List, length, Contains, Option, Some, None, slice_index_or}
use Rattle.dom_base.specs.AddrOrder.{rank}
use Rattle.pce_parent.specs.declared.arcs.Arc.{Arc}
use Rattle.pce_parent.specs.Costs.{cost_at}

-- with what follows it makes up the cost of the place that it leads from
pub record IsTight (costs : List (Option ℕ)) (place whole : ℕ) (a : Arc) : Type 0 where
  pub here : a.from ≡ place
  pub rest : ℕ
  pub at_head : cost_at costs a.to ≡ Some rest
  pub sum : whole ≡ a.cost + rest

-- before another by the choice, and then by the index
abbrev pub IsBefore : Arc → Arc → Type 0
IsBefore a b = (rank a.choice < rank b.choice) ⊎ ((rank a.choice ≡ rank b.choice) × (a.index < b.index))

abbrev pub IsBetter : Arc → Option Arc → Type 0
IsBetter a None = Unit {0}
IsBetter a (Some b) = IsBefore a b

-- the first of the tight ones, or none where none is tight
abbrev pub IsChosen : List Arc → List (Option ℕ) → ℕ → ℕ → Option Arc → Type 0
IsChosen arcs costs place whole None = (b : Arc) → Contains arcs b → IsTight costs place whole b → ⊥
IsChosen arcs costs place whole (Some a) =
    Contains arcs a × IsTight costs place whole a × ((b : Arc) → Contains arcs b → IsTight costs place whole b → IsBefore b a → ⊥)

-- both ends of an edge have a cost
pub record HasEnds (costs : List (Option ℕ)) (a : Arc) : Type 0 where
  pub tail : a.from < length costs
  pub head : a.to < length costs

-- the chosen edge from each place with a cost
pub record AreChosen (arcs : List Arc) (costs : List (Option ℕ)) (next : List (Option Arc)) : Type 0 where
  pub places : length next ≡ length costs
  pub each : (k whole : ℕ) → cost_at costs k ≡ Some whole → IsChosen arcs costs k whole (slice_index_or next k None)

-- tight, and before the one that was chosen
abbrev pub GoesFirst : List (Option ℕ) → List (Option Arc) → Arc → Type 0
GoesFirst costs next a = (whole : ℕ) × (cost_at costs a.from ≡ Some whole) × IsTight costs a.from whole a × IsBetter a (slice_index_or next a.from None)
