use Rattle.std.proofs.Common.{◌≡◌, length}
use Rattle.plant_text.specs.Lines.{rows_in}
use Rattle.plant_text.proofs.WordLaws.{in_front}
use Rattle.plant_text.proofs.row_words.rows_of.Given as goal

-- the rows so far and those of the words that are left are those of all words
abbrev pub invariant-loop-word : goal.invariant-loop-word
invariant-loop-word l = in_front l.rows (rows_in l.words) ≡ rows_in l.initial.words

abbrev pub decreases-loop-word : goal.decreases-loop-word
decreases-loop-word l = length l.words
