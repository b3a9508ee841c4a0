-- The arcs that a search goes over, as a list, and when they can be worked out.
use Rattle.std.specs.Prelude.{◌≡◌, ◌≢◌, ℕ, Bool, List, length}
use Rattle.std.specs.declared.option.Option.{Option}
use Rattle.diverse_pairs.specs.declared.arcs.Arc.{Arc}
use Rattle.diverse_pairs.specs.declared.residual.Arcs.{Arcs}
use Rattle.diverse_pairs.specs.declared.residual.Arcs.TheVariants.{Whole, Left}
use Rattle.diverse_pairs.specs.Arcs.{IsArc, AreAmong, AreLight}
use Rattle.diverse_pairs.specs.Distances.{AreLow, AreNear}
use Rattle.diverse_pairs.specs.Residual.{left_arcs}

abbrev pub listed : Arcs → List (Option Arc)
listed (Whole arcs) = arcs.now
listed (Left arcs distances in_use) = left_arcs distances.now in_use.now arcs.now

-- no arc is shorter than the distances say, and each weight is that of a link
pub record FitsWalk (arcs : List (Option Arc)) (ds : List ℕ) (us : List Bool) : Type 0 where
  pub long : length us ≡ length arcs
  pub among : AreAmong (length ds) arcs
  pub low : AreLow arcs ds
  pub light : AreLight arcs
  pub near : AreNear ds

abbrev pub Fits : Arcs → Type 0
Fits (Whole arcs) = Unit {0}
Fits (Left arcs distances in_use) = FitsWalk arcs.now distances.now in_use.now

-- an arc stands at the place and leads to the node
abbrev pub LeadsTo : List (Option Arc) → ℕ → ℕ → Arc → Type 0
LeadsTo arcs place node a = IsArc arcs place a × (a.head ≡ node)

-- no arc at the place does
abbrev pub LeadsElsewhere : List (Option Arc) → ℕ → ℕ → Type 0
LeadsElsewhere arcs place node = (a : Arc) → IsArc arcs place a → a.head ≢ node

-- an arc stands at the place and begins at the node
abbrev pub BeginsAt : List (Option Arc) → ℕ → ℕ → Arc → Type 0
BeginsAt arcs place node a = IsArc arcs place a × (a.tail ≡ node)

-- no arc at the place does
abbrev pub BeginsElsewhere : List (Option Arc) → ℕ → ℕ → Type 0
BeginsElsewhere arcs place node = (a : Arc) → IsArc arcs place a → a.tail ≢ node
