use Rattle.std.proofs.Common.{◌≡◌, drop}
use Rattle.pce_common.specs.plant_model.Element.{waiting}
use Rattle.pce_element.proofs.SearchLemmas.{left_of}
use Rattle.pce_element.proofs.pinned.PinnedRequests.waiting.Given as goal

abbrev pub invariant-loop-k : goal.invariant-loop-k
invariant-loop-k g l = waiting l.peer l.id (left_of l.ended (drop l.k l.self.pending.rows)) ≡ waiting l.peer l.id (left_of l.ended l.self.pending.rows)
