use Rattle.std.proofs.Common.{◌≡◌, drop}
use Rattle.plant_model.specs.Plant.{has_number}
use Rattle.pce_common.proofs.numbers.has_number.Given as goal

abbrev pub invariant-loop-other : goal.invariant-loop-other
invariant-loop-other l = has_number l.number (drop l.other-index l.numbers) ≡ has_number l.number l.numbers
