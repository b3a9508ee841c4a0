use Rattle.std.proofs.Common.{◌≡◌, drop}
use Rattle.std.specs.Prelude.{slice_get}
use Rattle.network_members.specs.Ready.{jobs_in}
use Rattle.network_members.proofs.elements.Elements.ready.Given as goal

abbrev pub invariant-loop-i : goal.invariant-loop-i
invariant-loop-i g l = slice_get (jobs_in (drop l.i l.self)) l.left ≡ slice_get (jobs_in l.self) l.k
