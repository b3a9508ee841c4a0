-- Distances that are lowered over the arcs into one node after the other, and which arcs may lower one still.
use Rattle.std.specs.Prelude.{◌≡◌, ◌⊎◌, ◌<◌, ◌≤◌, ◌+◌, ◌*◌, ◌++◌, ℕ, List, Bool, true, false, nat_lt, length, sum, Contains, replicate, slice_set}
use Rattle.std.specs.List.{sum_by}
use Rattle.std.specs.declared.option.Option.{Option}
use Rattle.diverse_pairs.specs.declared.arcs.Arc.{Arc}
use Rattle.diverse_pairs.specs.declared.arcs.TheConstants.{UNREACHED}
use Rattle.diverse_pairs.specs.Arcs.{IsArc, at}
use Rattle.diverse_pairs.specs.Distances.{IsLow, AreMade}

-- the target alone has a distance
abbrev pub IsFarAlone : ℕ → ℕ → List ℕ → Type 0
IsFarAlone nodes target distances = distances ≡ slice_set (replicate nodes UNREACHED) target 0

abbrev pub one_if : Bool → ℕ
one_if true = 1
one_if false = 0

-- how many nodes wait
abbrev pub waiting_count : List ℕ → ℕ
waiting_count waiting = sum_by (λ n. one_if (nat_lt n UNREACHED)) waiting

-- what is left to do: it falls with each distance that falls, and with each node that is settled
abbrev pub work : List ℕ → List ℕ → ℕ
work distances waiting = 2 * sum distances + waiting_count waiting

-- an arc that may lower a distance leads to a node that waits, or stands at one of these places and leads to this node
abbrev pub IsLeft : List (Option Arc) → ℕ → List ℕ → List ℕ → List ℕ → Type 0
IsLeft arcs node places distances waiting =
    (i : ℕ) (a : Arc) → IsArc arcs i a → IsLow distances a ⊎ ((at waiting a.head < UNREACHED) ⊎ ((a.head ≡ node) × Contains places i))

-- it leads to a node that waits, or to this one
abbrev pub IsOpened : List (Option Arc) → ℕ → List ℕ → List ℕ → Type 0
IsOpened arcs node distances waiting =
    (i : ℕ) (a : Arc) → IsArc arcs i a → IsLow distances a ⊎ ((at waiting a.head < UNREACHED) ⊎ (a.head ≡ node))

-- it leads to a node that waits
abbrev pub IsResting : List (Option Arc) → List ℕ → List ℕ → Type 0
IsResting arcs distances waiting = (i : ℕ) (a : Arc) → IsArc arcs i a → IsLow distances a ⊎ (at waiting a.head < UNREACHED)

-- the lists keep their lengths, and what is left to do does not grow
pub record Keeps (arcs : List (Option Arc)) (target : ℕ) (old new waiting next : List ℕ) : Type 0 where
  pub long : length new ≡ length old
  pub as_long : length next ≡ length waiting
  pub made : AreMade arcs target old → AreMade arcs target new
  pub less : work new next ≤ work old waiting

-- the arcs at these places that lead to the node are gone over
pub record Spreads (arcs : List (Option Arc)) (target node : ℕ) (places old new waiting next : List ℕ) : Type 0 where
  pub keeps : Keeps arcs target old new waiting next
  pub left : AreMade arcs target old → (more : List ℕ) → IsLeft arcs node (places ++ more) old waiting → IsLeft arcs node more new next

-- all arcs that lead to the node are
pub record Settles (arcs : List (Option Arc)) (target node : ℕ) (old new waiting next : List ℕ) : Type 0 where
  pub keeps : Keeps arcs target old new waiting next
  pub rests : AreMade arcs target old → IsOpened arcs node old waiting → IsResting arcs new next
