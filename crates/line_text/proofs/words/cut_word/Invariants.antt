use Rattle.std.proofs.Common.{◌≡◌, length}
use Rattle.line_text.specs.Words.{all_words}
use Rattle.line_text.proofs.words.cut_word.Given as goal

abbrev pub invariant-loop-front : goal.invariant-loop-front
invariant-loop-front l = all_words l.rest ≡ all_words l.line

abbrev pub decreases-loop-front : goal.decreases-loop-front
decreases-loop-front l = length l.rest
