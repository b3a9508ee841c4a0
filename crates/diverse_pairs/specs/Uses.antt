-- Which arcs are in use: those with a mark, or those that are tight by distances.
use Rattle.std.specs.Prelude.{◌≡◌, ◌+◌, ◌==◌, ℕ, Bool, true, false, List, length, map, nat_lt, None, Some, if◌then◌else◌}
use Rattle.std.specs.declared.option.Option.{Option}
use Rattle.diverse_pairs.specs.declared.arcs.Arc.{Arc}
use Rattle.diverse_pairs.specs.declared.arcs.TheConstants.{UNREACHED}
use Rattle.diverse_pairs.specs.declared.tight.Use.{Use}
use Rattle.diverse_pairs.specs.declared.tight.Use.TheVariants.{Marked, Tight}
use Rattle.diverse_pairs.specs.Arcs.{IsArc, at, is_used, AreAmong}

-- no arc at the place is in use and begins at the node
abbrev pub HasNoneAt : List (Option Arc) → List Bool → ℕ → ℕ → Type 0
HasNoneAt arcs marks from i = (a : Arc) → IsArc arcs i a → is_used marks i ≡ true → a.tail ≡ from → ⊥

-- this one does
abbrev pub IsUsedAt : List (Option Arc) → List Bool → ℕ → ℕ → Arc → Type 0
IsUsedAt arcs marks from i a = IsArc arcs i a × (is_used marks i ≡ true) × (a.tail ≡ from)

-- whether over the arc the distance falls by just its weight
abbrev pub tight_mark : List ℕ → Option Arc → Bool
tight_mark ds None = false
tight_mark ds (Some a) = if nat_lt (at ds a.tail) UNREACHED then (at ds a.tail == a.weight + at ds a.head) else false

abbrev pub tight_marks : List ℕ → List (Option Arc) → List Bool
tight_marks ds arcs = map (tight_mark ds) arcs

abbrev pub marks_of : Use → List (Option Arc) → List Bool
marks_of (Marked marks) arcs = marks.now
marks_of (Tight ds) arcs = tight_marks ds.now arcs

-- each arc has a place for its mark, or its ends have their distances
abbrev pub Suits : List (Option Arc) → Use → Type 0
Suits arcs (Marked marks) = length marks.now ≡ length arcs
Suits arcs (Tight ds) = AreAmong (length ds.now) arcs
