use Rattle.std.proofs.Common.{◌≡◌, drop}
use Rattle.pce_common.specs.plant_model.Parent.{each, take_report}
use Rattle.pce_parent.specs.Endings.{given_by, then_given}
use Rattle.pce_parent.proofs.parent.Parent.take_reports.Given as goal

abbrev pub invariant-loop-report : goal.invariant-loop-report
invariant-loop-report l = each (take_report l.teller.peer) l.reports l.self.losing.parent ≡ then_given (given_by l.self.losing.parent l.ending) (each (take_report l.teller.peer) (drop l.report-index l.reports))
