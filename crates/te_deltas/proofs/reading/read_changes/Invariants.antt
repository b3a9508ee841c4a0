use Rattle.std.proofs.Common.{◌≡◌, length}
use Rattle.te_deltas.specs.ChangeText.{changes_in}
use Rattle.te_deltas.proofs.Listing.{further}
use Rattle.te_deltas.proofs.reading.read_changes.Given as goal

-- the changes so far, and those of the lines that are left, are those of all lines
abbrev pub invariant-loop-line : goal.invariant-loop-line
invariant-loop-line l = further l.changes (changes_in l.lines) ≡ changes_in l.initial.lines

abbrev pub decreases-loop-line : goal.decreases-loop-line
decreases-loop-line l = length l.lines
