use Rattle.std.proofs.Common.{◌≡◌, drop}
use Rattle.plant_model.specs.Names.{has_pair}
use Rattle.pce_common.proofs.reported.has_pair.Given as goal

abbrev pub invariant-loop-own : goal.invariant-loop-own
invariant-loop-own l = has_pair l.pair.0 l.pair.1 (drop l.own-index l.pairs) ≡ has_pair l.pair.0 l.pair.1 l.pairs
