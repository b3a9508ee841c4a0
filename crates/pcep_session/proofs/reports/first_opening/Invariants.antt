use Rattle.std.proofs.Common.{◌≡◌, drop}
use Rattle.pcep_session.specs.Reports.{first_opening_of}
use Rattle.pcep_session.proofs.reports.first_opening.Given as goal

abbrev pub invariant-loop-report : goal.invariant-loop-report
invariant-loop-report l = first_opening_of (drop l.report-index l.reports) ≡ first_opening_of l.reports
