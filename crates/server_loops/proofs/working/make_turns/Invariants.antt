use Rattle.server_loops.specs.Sites.{Stays}
use Rattle.server_loops.specs.WorkerSteps.{IsRunning}
use Rattle.server_loops.proofs.working.make_turns.Given as goal

abbrev pub invariant-loop-turn : goal.invariant-loop-turn
invariant-loop-turn g l = record {
  running : IsRunning l.index l._turn (g.B.Bench.benched l.initial.bench) (g.B.Bench.benched l.bench) (g.G.Gate.passed l.initial.gate) (g.G.Gate.passed l.gate) l.cache l.unkept.last;
  stays : Stays g.B.Sited.is_at l.initial.bench l.bench;
}
