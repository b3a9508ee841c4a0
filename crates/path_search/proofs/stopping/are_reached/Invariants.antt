use Rattle.std.proofs.Common.{◌<◌, ℕ}
use Rattle.std.specs.Prelude.{slice_index_or}
use Rattle.path_search.specs.Arcs.{label_at}
use Rattle.path_search.specs.Early.{IsReached}
use Rattle.path_search.proofs.stopping.are_reached.Given as goal

abbrev pub invariant-loop-stop : goal.invariant-loop-stop
invariant-loop-stop l = (k d : ℕ) → k < l.stop-index → IsReached l.reach (label_at l.labels (slice_index_or l.stops k d))
