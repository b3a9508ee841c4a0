use Rattle.std.proofs.Common.{◌∙◌, sym}
use Rattle.server_loops.specs.WorkerSteps.{IsRunning}
use Rattle.server_loops.proofs.Righting.{can_keep}
use Rattle.server_loops.proofs.Running.{spent_run, unbegun_run, unkept_run, whole}
use Rattle.server_loops.proofs.working.work.Goals as goal

pub returns-in_default-clause-runs : goal.returns-in_default-clause-runs
returns-in_default-clause-runs g c = unbegun_run c.args.index c.args.turns (g.B.Bench.benched c.args.bench.now) (g.G.Gate.passed c.args.gate.now) c.args.cache.now

pub keep-requires : goal.keep-requires
keep-requires g c =
    let old = g.B.Bench.benched c.args.bench.now in
    let new = g.B.Bench.benched c.make_turns.new.bench in
    let cache = c.make_turns.new.cache in
    let last = c.make_turns.new.unkept.last in
    let r : IsRunning c.args.index c.args.turns old new (g.G.Gate.passed c.args.gate.now) (g.G.Gate.passed c.make_turns.new.gate) cache last = c.in_default-make_turns.ensures.made in
    record { can = can_keep new cache last r.sound }

pub returns-in-Err-keep-clause-runs : goal.returns-in-Err-keep-clause-runs
returns-in-Err-keep-clause-runs g c =
    unkept_run c.args.index c.args.turns (g.B.Bench.benched c.args.bench.now) (g.B.Bench.benched c.make_turns.new.bench) (g.G.Gate.passed c.args.gate.now) (g.G.Gate.passed c.make_turns.new.gate)
    c.make_turns.new.cache c.keep.new.cache c.make_turns.new.unkept.last c.in_default-make_turns.ensures.made

pub returns-in-Some-clause-runs : goal.returns-in-Some-clause-runs
returns-in-Some-clause-runs g c =
    spent_run c.args.index c.args.turns (g.B.Bench.benched c.args.bench.now) (g.B.Bench.benched c.make_turns.new.bench) (g.G.Gate.passed c.args.gate.now) (g.G.Gate.passed c.make_turns.new.gate)
    c.make_turns.new.cache c.keep.new.cache c.make_turns.new.unkept.last c.in_default-make_turns.ensures.made c.in-Some.number (sym c.spent.ensures ∙ c.in-Some.is) c.in_default-keep.ensures.has

pub returns-clause-runs : goal.returns-clause-runs
returns-clause-runs g c =
    whole c.args.index c.args.turns (g.B.Bench.benched c.args.bench.now) (g.B.Bench.benched c.make_turns.new.bench) (g.G.Gate.passed c.args.gate.now) (g.G.Gate.passed c.make_turns.new.gate)
    c.make_turns.new.cache c.keep.new.cache c.make_turns.new.unkept.last c.in_default-make_turns.ensures.made (sym c.spent.ensures ∙ c.in-None.is) c.in_default-keep.ensures.has
