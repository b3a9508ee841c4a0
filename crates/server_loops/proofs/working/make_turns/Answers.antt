use Rattle.std.proofs.Common.{◌≡◌, ◌∙◌, Ok, Err, None, sym}
use Rattle.server_loops.specs.WorkerSteps.{IsTurned}
use Rattle.server_loops.proofs.Running.{set_out, one_more, broken}
use Rattle.server_loops.proofs.working.make_turns.Goals as goal

pub returns-in-Err-clause-made : goal.returns-in-Err-clause-made
returns-in-Err-clause-made g c =
    let old = g.B.Bench.benched c.args.bench.now in
    let mid = g.B.Bench.benched c.loop-turn.bench in
    let new = g.B.Bench.benched c.turn.new.bench in
    let passed = g.G.Gate.passed c.args.gate.now in
    let passed_mid = g.G.Gate.passed c.loop-turn.gate in
    let passed_after = g.G.Gate.passed c.turn.new.gate in
    let live : mid.spent ≡ None = sym c.spent.ensures ∙ c.in_default.is in
    let t : IsTurned c.args.index (Err c.in-Err.field-0) mid new passed_mid passed_after c.loop-turn.unkept.last c.turn.new.cache c.turn.new.unkept.last = rw c.in-Err.is at c.turn.ensures.turned in
    broken c.args.index c.loop-turn._turn old mid new passed passed_mid passed_after c.loop-turn.cache c.turn.new.cache c.loop-turn.unkept.last c.turn.new.unkept.last c.loop-turn.invariant.running
    c.args.turns c.in-Err.field-0 live c.loop-turn-test.true t

pub loop-turn-preserved : goal.loop-turn-preserved
loop-turn-preserved g c =
    let old = g.B.Bench.benched c.args.bench.now in
    let mid = g.B.Bench.benched c.loop-turn.bench in
    let new = g.B.Bench.benched c.turn.new.bench in
    let passed = g.G.Gate.passed c.args.gate.now in
    let passed_mid = g.G.Gate.passed c.loop-turn.gate in
    let passed_after = g.G.Gate.passed c.turn.new.gate in
    let live : mid.spent ≡ None = sym c.spent.ensures ∙ c.in_default.is in
    let t : IsTurned c.args.index (Ok tt) mid new passed_mid passed_after c.loop-turn.unkept.last c.turn.new.cache c.turn.new.unkept.last = rw c.in_default-turn.is at c.turn.ensures.turned in
    record {
      running = one_more c.args.index c.loop-turn._turn old mid new passed passed_mid passed_after c.loop-turn.cache c.turn.new.cache c.loop-turn.unkept.last c.turn.new.unkept.last
          c.loop-turn.invariant.running live t;
      stays = λ site is. c.turn.ensures.stays site (c.loop-turn.invariant.stays site is);
    }

pub loop-turn-init : goal.loop-turn-init
loop-turn-init g c = record {
  running = set_out c.args.index (g.B.Bench.benched c.args.bench.now) (g.G.Gate.passed c.args.gate.now) c.args.cache.now c.args.unkept.now.last c.requires.new c.requires.none;
  stays = λ site is. is;
}
