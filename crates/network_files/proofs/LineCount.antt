-- A text has no more lines than bytes, and one.
use Rattle.std.proofs.Common.{◌≤◌, ◌+◌, ◌==◌, ℕ, List, [], ◌∷◌, length, arith, inl, inr}
use Rattle.std.specs.Prelude.{count_by}
use Rattle.std.specs.List.{slice_split}
use Rattle.std.specs.Str.Lines.{lines, lines_of_parts}
use Rattle.std.proofs.lemmas.Bool.Decides.{eqb_tells}
use Rattle.std.proofs.lemmas.List.Splits.{length-slice_split}

few_parts : (ps : List (List ℕ)) → length (lines_of_parts ps) ≤ length ps
few_parts [] = omega arith
few_parts (x ∷ []) = elim (eqb_tells (length x) 0) [ inl t ↦ rw t.0 (omega arith) | inr f ↦ rw f.0 (omega arith) ]
few_parts (x ∷ (y ∷ more)) = omega (arith, few_parts (y ∷ more))

pub few_lines : (bytes : List ℕ) → count_by (λ b. b == 10) bytes ≤ length bytes → length (lines bytes) ≤ length bytes + 1
few_lines bytes few = omega (arith, few_parts (slice_split (λ b. b == 10) bytes), length-slice_split (λ b. b == 10) bytes, few)
