use Rattle.std.proofs.Common.{◌≡◌, drop}
use Rattle.pce_common.specs.plant_model.Element.{pass_over}
use Rattle.pce_common.specs.plant_model.Parent.{among, next_id}
use Rattle.pce_parent.proofs.sending.next_id.Given as goal

abbrev pub invariant-loop-wait : goal.invariant-loop-wait
invariant-loop-wait l = next_id l.peer l.taken l.ways ≡ pass_over (drop l._wait-index l.taken) (among l.peer l.taken) l.id
