use Rattle.std.proofs.Common.{◌≡◌, length, None}
use Rattle.diverse_pairs.specs.Text.{body_in}
use Rattle.diverse_pairs.proofs.Gathering.{further}
use Rattle.diverse_pairs.proofs.reading.read_body.Given as goal

-- the potentials so far, and what the lines that are left say, are what all lines say
abbrev pub invariant-loop-line : goal.invariant-loop-line
invariant-loop-line l = further l.potentials (body_in l.end l.last l.lines) ≡ body_in l.end None l.initial.lines

abbrev pub decreases-loop-line : goal.decreases-loop-line
decreases-loop-line l = length l.lines
