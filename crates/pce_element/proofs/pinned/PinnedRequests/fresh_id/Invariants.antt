use Rattle.std.proofs.Common.{◌≡◌, drop}
use Rattle.pce_common.specs.plant_model.Element.{fresh_id, is_waiting, pass_over}
use Rattle.pce_element.proofs.pinned.PinnedRequests.fresh_id.Given as goal

abbrev pub invariant-loop-row : goal.invariant-loop-row
invariant-loop-row g l = pass_over (drop l._row l.self.pending.rows) (is_waiting l.peer l.self.pending.rows) l.id ≡ fresh_id l.peer l.last l.self.pending.rows
