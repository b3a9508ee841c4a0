use Rattle.std.proofs.Common.{◌≡◌, drop}
use Rattle.std.specs.List.{list_any}
use Rattle.diverse_pairs.specs.Asking.{is_svec}
use Rattle.diverse_pairs.proofs.asking.has_svec.Given as goal

abbrev pub invariant-loop-object : goal.invariant-loop-object
invariant-loop-object l = list_any is_svec (drop l.object-index l.objects) ≡ list_any is_svec l.objects
