-- The front of a search: nodes that are settled, nodes that wait, and the arcs into the settled ones.
use Rattle.std.specs.Prelude.{◌≡◌, ◌⊎◌, ◌<◌, ◌≤◌, ℕ, List, length, All, Bool, true, false, None, Some, slice_index_or, slice_set}
use Rattle.std.specs.declared.option.Option.{Option}
use Rattle.dom_base.specs.declared.query.Label.{Label}
use Rattle.path_search.specs.declared.arc.Arc.{Arc}
use Rattle.path_search.specs.Arcs.{label_at, IsRelaxed, Lowers, AreSupported, AreNoHigher}

-- the cost of a label
abbrev pub cost_of : Option Label → Option ℕ
cost_of None = None
cost_of (Some b) = Some b.cost

-- the cost at a place
abbrev pub cost_at : List (Option ℕ) → ℕ → Option ℕ
cost_at costs i = slice_index_or costs i None

-- whether the node at a place is settled
abbrev pub is_done : List Bool → ℕ → Bool
is_done done i = slice_index_or done i false

-- The settled labels cost at most what the last one does, those that wait cost at least that, and the arcs into the settled nodes are
-- relaxed.
pub record IsFront (cap : ℕ) (arcs : List Arc) (start labels : List (Option Label)) (waiting : List (Option ℕ)) (done : List Bool) (last : Label) : Type 0 where
  pub same_length : length labels ≡ length start
  pub as_long : length waiting ≡ length labels
  pub supported : AreSupported cap arcs start labels
  pub no_higher : AreNoHigher start labels
  pub settled : (i : ℕ) → is_done done i ≡ true → (b : Label) × ((label_at labels i ≡ Some b) × (b.cost ≤ last.cost))
  pub apart : (i : ℕ) → is_done done i ≡ true → cost_at waiting i ≡ None
  pub waits : (i : ℕ) → is_done done i ≡ false → cost_at waiting i ≡ cost_of (label_at labels i)
  pub later : (i n : ℕ) → cost_at waiting i ≡ Some n → last.cost ≤ n
  pub heads : All (λ a. is_done done a.head ≡ true) arcs
  pub relaxed : All (IsRelaxed cap labels) arcs

-- the least cost that waits stands at a place
pub record IsLeastAt (waiting : List (Option ℕ)) (i n : ℕ) : Type 0 where
  pub at : cost_at waiting i ≡ Some n
  pub least : (j m : ℕ) → cost_at waiting j ≡ Some m → n ≤ m

-- an arc is relaxed: the label of its tail is lowered and its cost waits, or nothing changes
abbrev pub Spreads : ℕ → Arc → List (Option Label) → List (Option Label) → List (Option ℕ) → List (Option ℕ) → Type 0
Spreads cap a old new waiting waiting' =
    (Lowers cap a old new × (waiting' ≡ slice_set waiting a.tail (cost_of (label_at new a.tail)))) ⊎ ((new ≡ old) × ((waiting' ≡ waiting) × IsRelaxed cap old a))

-- the place of the least cost that waits, if one does
abbrev pub HoldsLeast : List (Option ℕ) → Option ℕ → Type 0
HoldsLeast waiting None = (i : ℕ) → cost_at waiting i ≡ None
HoldsLeast waiting (Some i) = (i < length waiting) × ((n : ℕ) × IsLeastAt waiting i n)
