use Rattle.std.proofs.Common.{◌≡◌, take}
use Rattle.diverse_pairs.specs.Asking.{plain}
use Rattle.diverse_pairs.proofs.copying.copy_plain.Given as goal

abbrev pub invariant-loop-object : goal.invariant-loop-object
invariant-loop-object l = l.copies ≡ plain (take l.object-index l.objects)
