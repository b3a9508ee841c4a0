-- Paths that take the first arc at each node.
use Rattle.std.proofs.Common.{◌≡◌, ◌≢◌, ℕ, Bool, List, [], ◌∷◌, ◌++◌, append_assoc, append-nil}
use Rattle.std.specs.declared.option.Option.{Option}
use Rattle.diverse_pairs.specs.declared.arcs.Arc.{Arc}
use Rattle.diverse_pairs.specs.Paths.{IsFirstFrom, Goes}

-- what goes on from here goes on from the source
abbrev pub IsUnderway : List (Option Arc) → List Bool → ℕ → List ℕ → ℕ → ℕ → Type 0
IsUnderway arcs in_use s path here t = (is : List ℕ) → Goes arcs in_use here is t → Goes arcs in_use s (path ++ is) t

pub one_further : (arcs : List (Option Arc)) (in_use : List Bool) (s : ℕ) (path : List ℕ) (here i v t : ℕ) → IsUnderway arcs in_use s path here t → here ≢ t → IsFirstFrom arcs in_use here i v →
    IsUnderway arcs in_use s (path ++ i ∷ []) v t
one_further arcs in_use s path here i v t way more step is goes = rw append_assoc (way (i ∷ is) (more, v, step, goes))

pub arrived : (arcs : List (Option Arc)) (in_use : List Bool) (s : ℕ) (path : List ℕ) (here t : ℕ) → IsUnderway arcs in_use s path here t → here ≡ t → Goes arcs in_use s path t
arrived arcs in_use s path here t way is = rw (← append-nil path) (way [] is)
