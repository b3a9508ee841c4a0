use Rattle.std.proofs.Common.{◌≡◌, drop}
use Rattle.pce_common.specs.plant_model.Parent.{each, take_failure, waiting}
use Rattle.pce_parent.specs.Endings.{given_by, then_given}
use Rattle.pce_parent.proofs.parent.Parent.take_report.Given as goal

abbrev pub invariant-loop-rp : goal.invariant-loop-rp
invariant-loop-rp l = then_given (given_by l.self.losing.parent l.initial.ending) (each (λ rp k. take_failure l.error k (waiting l.teller.peer rp.1 k.pending.rows)) l.report.ids) ≡ then_given (given_by l.self.losing.parent l.ending) (each (λ rp k. take_failure l.error k (waiting l.teller.peer rp.1 k.pending.rows)) (drop l.rp-index l.report.ids))
