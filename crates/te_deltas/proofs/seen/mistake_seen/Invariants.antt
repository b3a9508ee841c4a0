use Rattle.te_text.specs.TopologyText.{rows_in_order}
use Rattle.te_deltas.specs.Changes.{NoneBefore}
use Rattle.te_deltas.proofs.seen.mistake_seen.Given as goal

abbrev pub invariant-loop-place : goal.invariant-loop-place
invariant-loop-place l = NoneBefore (rows_in_order l.topology) l.changes l.place
