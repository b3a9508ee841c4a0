use Rattle.std.proofs.Common.{◌≡◌, drop}
use Rattle.std.specs.Prelude.{slice_get}
use Rattle.pce_common.specs.plant_model.Parent.{ready_numbers}
use Rattle.pce_parent.proofs.pending.ready_at.Given as goal

abbrev pub invariant-loop-i : goal.invariant-loop-i
invariant-loop-i l = slice_get (ready_numbers l.requests.kept.rows) l.k ≡ slice_get (ready_numbers (drop l.i l.requests.kept.rows)) l.left
