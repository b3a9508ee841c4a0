use Rattle.std.proofs.Common.{◌≡◌, ◌≤◌, ◌+◌, drop}
use Rattle.plant_text.specs.Lines.{new_entries_after}
use Rattle.plant_text.proofs.row_words.new_entries.Given as goal

abbrev pub invariant-loop-row : goal.invariant-loop-row
invariant-loop-row l = (l.count + new_entries_after l.last (drop l.row-index l.others) ≡ new_entries_after l.initial.last l.others) × (l.count ≤ l.row-index)
