use Rattle.std.proofs.Common.{arith}
use Rattle.turn_desk.specs.WorkBenches.{bench_of}
use Rattle.network_serving.proofs.Workings.{one_lacked, works_by}
use Rattle.network_serving.proofs.working.work_on.Goals as goal

pub returns-in_default : goal.returns-in_default
returns-in_default g c = record {
  works = works_by c.args.index c.args.turns c.loop-run.run c.args.turns c.try_once.result (bench_of c.args.bench.now) (bench_of c.loop-run.bench) (bench_of c.try_once.new.bench) c.try_once.new.cache
      (omega (arith, c.loop-run-test.true)) c.loop-run.invariant.lacked c.try_once.ensures.tries c.in_default.not-NoMemory;
  spent = c.try_once.ensures.spent c.in_default.not-NoMemory;
  lasts = c.in_default.not-NoMemory;
  stays = λ first at. c.try_once.ensures.stays first (c.loop-run.invariant.stays first at);
}

pub loop-run-preserved : goal.loop-run-preserved
loop-run-preserved g c = record {
  lacked = one_lacked c.args.index c.args.turns c.loop-run.run (bench_of c.args.bench.now) (bench_of c.loop-run.bench) (bench_of c.try_once.new.bench) c.try_once.new.cache c.loop-run.invariant.lacked c.in-NoMemory.ensures.tries;
  new = λ e. absurd (omega (arith, e));
  stays = λ first at. c.try_once.ensures.stays first (c.loop-run.invariant.stays first at);
}
