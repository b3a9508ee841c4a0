use Rattle.std.proofs.Common.{take}
use Rattle.std.specs.Prelude.{All}
use Rattle.pce_parent.specs.Solution.{IsWeighed}
use Rattle.worked_members.proofs.parts.are_weighed.Given as goal

abbrev pub invariant-loop-link : goal.invariant-loop-link
invariant-loop-link l = All IsWeighed (take l.link-index l.links)
