use Rattle.std.proofs.Common.{◌≡◌, ◌+◌, length, take}
use Rattle.std.specs.List.{sum_by}
use Rattle.pce_common.specs.declared.named.TheConstants.{WALKS_MAX}
use Rattle.pcep_messages.specs.declared.message.Notice.{Notice}
use Rattle.pce_common.proofs.named.notices_name_many.Given as goal

abbrev pub invariant-loop-notice : goal.invariant-loop-notice
invariant-loop-notice l = l.left + sum_by (λ (x : Notice). length x.ids) (take l.notice-index l.notices) ≡ WALKS_MAX
