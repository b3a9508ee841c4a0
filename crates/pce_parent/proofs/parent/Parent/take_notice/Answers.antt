use Rattle.std.proofs.Common.{◌∙◌, ℕ, List, ap, sym}
use Rattle.pcep_codes.specs.declared.notices.TheConstants as notices
use Rattle.pce_common.specs.plant_model.Names.{has_pair}
use Rattle.pce_parent.specs.Endings.{given_by}
use Rattle.pce_parent.proofs.Telling.{told_in}
use Rattle.pce_parent.proofs.parent.Parent.take_notice.Goals as goal

pub loop-rp-init : goal.loop-rp-init
loop-rp-init c =
    sym (told_in (given_by c.args.self.now.losing.parent c.args.ending.now) c.args.teller.now.peer c.args.notice.now c.told_by-told.result
    (c.told_by-told.ensures.busy ∙ ap (λ (kinds : List (ℕ × ℕ)). has_pair notices.BUSY.0 notices.BUSY.1 kinds) c.as_slice.ensures)
    (c.told_by-told.ensures.cancelled ∙ ap (λ (kinds : List (ℕ × ℕ)). has_pair notices.CANCELLED.0 notices.CANCELLED.1 kinds) c.as_slice.ensures))
