use Rattle.std.proofs.Common.{◌≡◌, ◌+◌, length, take}
use Rattle.std.specs.List.{sum_by}
use Rattle.pce_common.specs.declared.named.TheConstants.{WALKS_MAX}
use Rattle.pcep_messages.specs.declared.message.ErrorReport.{ErrorReport}
use Rattle.pce_common.proofs.named.reports_name_many.Given as goal

abbrev pub invariant-loop-report : goal.invariant-loop-report
invariant-loop-report l = l.left + sum_by (λ (x : ErrorReport). length x.ids) (take l.report-index l.reports) ≡ WALKS_MAX
