use Rattle.std.proofs.Common.{◌≡◌, length}
use Rattle.te_text.specs.RowText.{srlgs_in}
use Rattle.te_text.proofs.Front.{in_front}
use Rattle.te_text.proofs.row.srlgs_of.Given as goal

-- the numbers so far and those of the words that are left are those of all words
abbrev pub invariant-loop-word : goal.invariant-loop-word
invariant-loop-word l = in_front l.srlgs (srlgs_in l.words) ≡ srlgs_in l.initial.words

abbrev pub decreases-loop-word : goal.decreases-loop-word
decreases-loop-word l = length l.words
