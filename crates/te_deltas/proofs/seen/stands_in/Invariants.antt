use Rattle.std.proofs.Common.{◌≡◌, take, false}
use Rattle.te_text.specs.TopologyText.{rows_in_order}
use Rattle.te_deltas.specs.Changes.{has_name}
use Rattle.te_deltas.proofs.seen.stands_in.Given as goal

-- no row before the place is of the name
abbrev pub invariant-loop-place : goal.invariant-loop-place
invariant-loop-place l = has_name l.name (take l.place (rows_in_order l.topology)) ≡ false
