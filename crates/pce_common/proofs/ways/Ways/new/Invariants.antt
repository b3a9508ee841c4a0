use Rattle.std.proofs.Common.{◌≡◌, map, take}
use Rattle.pce_common.specs.Ways.{way_of}
use Rattle.pce_common.proofs.ways.Ways.new.Given as goal

abbrev pub invariant-loop-number : goal.invariant-loop-number
invariant-loop-number l = l.rows.items ≡ map way_of (take l.number-index l.links)
