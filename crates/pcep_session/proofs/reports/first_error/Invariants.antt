use Rattle.std.proofs.Common.{◌≡◌, drop}
use Rattle.pcep_session.specs.Reports.{first_error_of}
use Rattle.pcep_session.proofs.reports.first_error.Given as goal

abbrev pub invariant-loop-report : goal.invariant-loop-report
invariant-loop-report l = first_error_of (drop l.report-index l.reports) ≡ first_error_of l.reports
