use Rattle.std.proofs.Common.{◌≡◌, ◌<◌, length, slice_get}
use Rattle.te_deltas.specs.Blame.{numbers_of}
use Rattle.te_deltas.proofs.blaming.line_of_change.Given as goal

-- the line that is looked for stands so many lines behind
abbrev pub invariant-loop-line : goal.invariant-loop-line
invariant-loop-line l = record {
  there : l.before < length l.lines;
  same : slice_get (numbers_of l.lines) l.before ≡ slice_get (numbers_of l.initial.lines) l.fn.place;
}

abbrev pub decreases-loop-line : goal.decreases-loop-line
decreases-loop-line l = length l.lines
