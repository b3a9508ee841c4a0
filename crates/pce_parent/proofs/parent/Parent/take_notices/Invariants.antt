use Rattle.std.proofs.Common.{◌≡◌, drop}
use Rattle.pce_common.specs.plant_model.Parent.{each, take_notice}
use Rattle.pce_parent.specs.Endings.{given_by, then_given}
use Rattle.pce_parent.proofs.parent.Parent.take_notices.Given as goal

abbrev pub invariant-loop-notice : goal.invariant-loop-notice
invariant-loop-notice l = each (take_notice l.teller.peer) l.notices l.self.losing.parent ≡ then_given (given_by l.self.losing.parent l.ending) (each (take_notice l.teller.peer) (drop l.notice-index l.notices))
