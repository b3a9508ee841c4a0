-- How many lines a text has.
use Rattle.std.proofs.Common.{ℕ, ◌+◌, ◌≤◌, List, [], ◌∷◌, length, arith}
use Rattle.std.specs.List.{slice_split}
use Rattle.std.specs.Str.Lines.{lines, lines_of_parts}
use Rattle.std.proofs.lemmas.List.Splits.{length-slice_split}
use Rattle.std.proofs.lemmas.List.Sums.{count_by-le-length}
use Rattle.line_text.proofs.Cut.{is_line_feed}

one_at_most : (part : List ℕ) → length (lines_of_parts (part ∷ [])) ≤ 1
one_at_most [] = omega arith
one_at_most (c ∷ part) = grind arith

no_more_than_parts : (parts : List (List ℕ)) → length (lines_of_parts parts) ≤ length parts
no_more_than_parts [] = omega arith
no_more_than_parts (x ∷ []) = one_at_most x
no_more_than_parts (x ∷ y ∷ parts) = omega (arith, no_more_than_parts (y ∷ parts))

-- a line takes a byte, but maybe for the last one
pub lines_at_most : (text : List ℕ) → length (lines text) ≤ length text + 1
lines_at_most text =
    omega (arith, no_more_than_parts (slice_split is_line_feed text), length-slice_split is_line_feed text, count_by-le-length is_line_feed text)
