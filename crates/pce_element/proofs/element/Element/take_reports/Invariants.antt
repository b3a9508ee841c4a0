use Rattle.std.proofs.Common.{◌≡◌, drop}
use Rattle.pce_common.specs.plant_model.Element.{each}
use Rattle.pce_common.specs.plant_model.Taking.{take_report}
use Rattle.pce_element.specs.Endings.{after, reached}
use Rattle.pce_element.proofs.element.Element.take_reports.Given as goal

abbrev pub invariant-loop-report : goal.invariant-loop-report
invariant-loop-report g l = after (reached l.self.losing.element l.ending) (each (take_report l.teller.peer) (drop l.report-index l.reports)) ≡ each (take_report l.teller.peer) l.reports l.self.losing.element
