use Rattle.std.proofs.Common.{◌≡◌, take}
use Rattle.te_text.specs.TopologyText.{rows_in_order}
use Rattle.te_deltas.specs.Changes.{has_name, rows_after}
use Rattle.te_deltas.proofs.seen.is_there.Given as goal

-- so far
abbrev pub invariant-loop-place : goal.invariant-loop-place
invariant-loop-place l = l.there ≡ has_name l.name (rows_after (rows_in_order l.topology) (take l.place l.before))
