use Rattle.std.proofs.Common.{◌≡◌, drop}
use Rattle.plant_text.specs.Lines.{are_rising_after}
use Rattle.plant_text.proofs.row_words.are_rising.Given as goal

abbrev pub invariant-loop-row : goal.invariant-loop-row
invariant-loop-row l = are_rising_after l.last (drop l.row-index l.others) ≡ are_rising_after l.initial.last l.others
