use Rattle.std.proofs.Common.{◌≡◌, ◌+◌, drop, length}
use Rattle.std.specs.List.{flat_map}
use Rattle.pcep_messages.specs.Spelling.{objects_text, report_objects}
use Rattle.pcep_messages.proofs.room.behind_reports.Given as goal

abbrev pub invariant-loop-report : goal.invariant-loop-report
invariant-loop-report l = length (objects_text (flat_map report_objects l.reports)) + l.left ≡ l.room + length (objects_text (flat_map report_objects (drop l.report-index l.reports)))
