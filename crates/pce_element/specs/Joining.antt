-- Rows of a border table, one after the other, joined with what the next domain told.
use Rattle.std.specs.Prelude.{◌≡◌, ◌≢◌, ◌⊎◌, ℕ, cond, nat_lt, List, [], ◌∷◌, ◌++◌, Option, Some, None}
use Rattle.pce_common.specs.plant_model.Types.{Addr, BorderRow, Best, Target, Down}
use Rattle.border_costs.specs.declared.job.Target.TheVariants.{Node, Next}
use Rattle.pce_common.specs.plant_model.Jobs.{JoinsBy}

-- a row by itself joins to nothing
abbrev pub JoinsNothing : ℕ → Target → List Down → BorderRow → Type 0
JoinsNothing cap target down r = (e : Addr) (c : ℕ) (exit : Addr) (head : Option Addr) → ¬ JoinsBy cap target (r ∷ []) down e c exit head

-- the node beyond the exit of a row; none in the last domain
abbrev pub head_over : Target → BorderRow → Option Addr
head_over (Node t) r = None
head_over (Next b) r = Some r.head

-- the sum to which a row by itself joins
pub record JoinsOver (cap : ℕ) (target : Target) (down : List Down) (r : BorderRow) (cost : ℕ) : Type 0 where
  pub joins : JoinsBy cap target (r ∷ []) down r.entry cost r.far (head_over target r)
  pub one : (e : Addr) (c : ℕ) (exit : Addr) (head : Option Addr) → JoinsBy cap target (r ∷ []) down e c exit head → c ≡ cost

-- the way that a row makes by itself
pub record IsJoinOfRow (cap : ℕ) (target : Target) (down : List Down) (r : BorderRow) (b : Best) : Type 0 where
  pub joins : JoinsBy cap target (r ∷ []) down b.entry b.cost b.exit b.head
  pub entry : b.entry ≡ r.entry
  pub exit : b.exit ≡ r.far
  pub cost : (e : Addr) (c : ℕ) (exit : Addr) (head : Option Addr) → JoinsBy cap target (r ∷ []) down e c exit head → c ≡ b.cost

-- the last way is not from this entry
abbrev pub EndsElsewhere : Addr → List Best → Type 0
EndsElsewhere entry best = (older : List Best) (last : Best) → best ≡ older ++ last ∷ [] → last.entry ≢ entry

-- A further way is the last one; where the last one was from the same entry, the cheaper of both is, and the first of equals.
abbrev pub TakesIn : Best → List Best → List Best → Type 0
TakesIn b old new =
    ((older : List Best) × (last : Best) × (old ≡ older ++ last ∷ []) × (last.entry ≡ b.entry) × (new ≡ older ++ cond (nat_lt b.cost last.cost) b last ∷ []))
    ⊎ (EndsElsewhere b.entry old × (new ≡ old ++ b ∷ []))

-- A further row: it joins to nothing and leaves the ways as they are, or its way is taken in.
abbrev pub JoinsRow : ℕ → Target → List Down → BorderRow → List Best → List Best → Type 0
JoinsRow cap target down r old new = (JoinsNothing cap target down r × (new ≡ old)) ⊎ ((b : Best) × IsJoinOfRow cap target down r b × TakesIn b old new)
