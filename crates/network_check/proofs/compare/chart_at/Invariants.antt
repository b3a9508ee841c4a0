use Rattle.std.proofs.Common.{◌≡◌, drop}
use Rattle.network_check.specs.Compare.{chart_at}
use Rattle.network_check.proofs.compare.chart_at.Given as goal

abbrev pub invariant-loop-one : goal.invariant-loop-one
invariant-loop-one l = chart_at l.at (drop l.one-index l.seen) ≡ chart_at l.at l.seen
