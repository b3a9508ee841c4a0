use Rattle.std.proofs.Common.{take}
use Rattle.pce_common.specs.Rounds.{IsNext, jobs_by}
use Rattle.pce_common.proofs.rounds.next_job.Given as goal

abbrev pub invariant-loop-i : goal.invariant-loop-i
invariant-loop-i g l = IsNext l.behind (jobs_by g.T.Solvable.solvable (take l.i l.requests.kept.rows)) l.next
