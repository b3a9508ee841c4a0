use Rattle.std.proofs.Common.{◌≡◌, drop}
use Rattle.pce_common.specs.plant_model.Element.{is_waiting}
use Rattle.pce_element.proofs.pinned.PinnedRequests.is_waiting.Given as goal

abbrev pub invariant-loop-k : goal.invariant-loop-k
invariant-loop-k g l = is_waiting l.peer (drop l.k l.self.pending.rows) l.id ≡ is_waiting l.peer l.self.pending.rows l.id
