use Rattle.std.proofs.Common.{◌≡◌, drop}
use Rattle.std.specs.Prelude.{slice_get}
use Rattle.pce_common.specs.plant_model.Element.{ready_numbers}
use Rattle.pce_element.proofs.pinned.PinnedRequests.ready.Given as goal

abbrev pub invariant-loop-i : goal.invariant-loop-i
invariant-loop-i g l = slice_get (ready_numbers l.self.pending.rows) l.k ≡ slice_get (ready_numbers (drop l.i l.self.pending.rows)) l.left
