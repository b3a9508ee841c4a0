use Rattle.std.proofs.Common.{◌∙◌, ℕ, List, ap}
use Rattle.pcep_codes.specs.declared.notices.TheConstants as notices
use Rattle.pce_common.specs.plant_model.Names.{has_pair}
use Rattle.pce_element.specs.Endings.{reached}
use Rattle.pce_element.proofs.EndLemmas.{told_in}
use Rattle.pce_element.proofs.element.Element.take_notice.Goals as goal

pub loop-rp-init : goal.loop-rp-init
loop-rp-init g c =
    told_in (reached c.args.self.now.losing.element c.args.ending.now) c.args.teller.now.peer c.args.notice.now c.told_by-told.result
    (c.told_by-told.ensures.busy ∙ ap (λ (kinds : List (ℕ × ℕ)). has_pair notices.BUSY.0 notices.BUSY.1 kinds) c.as_slice.ensures)
    (c.told_by-told.ensures.cancelled ∙ ap (λ (kinds : List (ℕ × ℕ)). has_pair notices.CANCELLED.0 notices.CANCELLED.1 kinds) c.as_slice.ensures)
