use Rattle.std.proofs.Common.{◌≡◌, drop}
use Rattle.pce_common.specs.plant_model.Element.{each}
use Rattle.pce_common.specs.plant_model.Taking.{take_notice}
use Rattle.pce_element.specs.Endings.{after, reached, steps_of}
use Rattle.pce_element.proofs.element.Element.take_notice.Given as goal

abbrev pub invariant-loop-rp : goal.invariant-loop-rp
invariant-loop-rp g l = after (reached l.self.losing.element l.ending) (each (λ rp. each (λ step. step l.teller.peer rp) (steps_of l.told)) (drop l.rp-index l.notice.ids)) ≡ after (reached l.self.losing.element l.initial.ending) (take_notice l.teller.peer l.notice)
