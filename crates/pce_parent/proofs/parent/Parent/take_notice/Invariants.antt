use Rattle.std.proofs.Common.{◌≡◌, drop}
use Rattle.pce_common.specs.plant_model.Parent.{each, take_notice}
use Rattle.pce_parent.specs.Endings.{given_by, steps_of, then_given}
use Rattle.pce_parent.proofs.parent.Parent.take_notice.Given as goal

abbrev pub invariant-loop-rp : goal.invariant-loop-rp
invariant-loop-rp l = then_given (given_by l.self.losing.parent l.initial.ending) (take_notice l.teller.peer l.notice) ≡ then_given (given_by l.self.losing.parent l.ending) (each (λ rp. each (λ step. step l.teller.peer rp) (steps_of l.told)) (drop l.rp-index l.notice.ids))
