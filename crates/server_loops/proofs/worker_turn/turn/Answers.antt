use Rattle.std.proofs.lemmas.Result.{err_from_is_err_and}
use Rattle.std.proofs.Common.{ℕ, Ok, Err, None, Some, sym, subst}
use Rattle.std.specs.Prelude.{Contains, List}
use Rattle.std.proofs.lemmas.List.Elements.{Contains-push}
use Rattle.dom_base.specs.declared.names.As.{As}
use Rattle.server_loops.specs.Benches.{Call, Look, Goes}
use Rattle.server_loops.specs.WorkerSteps.{IsFound}
use Rattle.server_loops.proofs.Righting.{sound_grows}
use Rattle.server_loops.proofs.WorkerTurning.{idle_turn, late_turn, broken_look, full_turn, stays_of, stays_on, live, none_of, one_call}
use Rattle.server_loops.proofs.worker_turn.turn.Goals as goal

pub returns-in_default-clause-turned : goal.returns-in_default-clause-turned
returns-in_default-clause-turned g c =
    let old = g.B.Bench.benched c.args.bench.now in
    let new = g.B.Bench.benched c.find.new.bench in
    let f : IsFound c.args.index old new None = rw c.in_default.is at c.find.ensures.found in
    idle_turn c.args.index old new (g.G.Gate.passed c.args.gate.now) c.args.cache.now c.args.unkept.now.last f c.requires

pub returns-in_err-work-clause-turned : goal.returns-in_err-work-clause-turned
returns-in_err-work-clause-turned g c =
    let old = g.B.Bench.benched c.args.bench.now in
    let mid = g.B.Bench.benched c.find.new.bench in
    let new = g.B.Bench.benched c.look.new.self in
    let job : As × ℕ = (c.in-Some.at, c.in-Some.number) in
    let e = c.in_err-work.field-0.0 in
    let p = err_from_is_err_and c.from_residual.result c.from_residual.ensures.1 in
    let f : IsFound c.args.index old mid (Some job) = rw c.in-Some.is at c.find.ensures.found in
    let looked : Goes mid new (Look job.0 job.1 (Err e)) = rw c.in_err-work.was at c.look.ensures.goes in
    rw p.1 (broken_look c.args.index old mid new (g.G.Gate.passed c.args.gate.now) c.args.cache.now c.args.unkept.now.last job e f looked)

pub returns-in_default-2-clause-turned : goal.returns-in_default-2-clause-turned
returns-in_default-2-clause-turned g c =
    let old = g.B.Bench.benched c.args.bench.now in
    let mid = g.B.Bench.benched c.find.new.bench in
    let new = g.B.Bench.benched c.look.new.self in
    let job : As × ℕ = (c.in-Some.at, c.in-Some.number) in
    let f : IsFound c.args.index old mid (Some job) = rw c.in-Some.is at c.find.ensures.found in
    let looked : Goes mid new (Look job.0 job.1 (Ok None)) = rw (c.in_ok-work.was, c.in_default-2.is) at c.look.ensures.goes in
    late_turn c.args.index old mid new (g.G.Gate.passed c.args.gate.now) c.args.cache.now c.args.unkept.now.last job f looked c.requires

pub finish-requires-clause-looked : goal.finish-requires-clause-looked
finish-requires-clause-looked g c =
    let mid = g.B.Bench.benched c.find.new.bench in
    let new = g.B.Bench.benched c.look.new.self in
    let call = Look c.in-Some.at c.in-Some.number (Ok (Some c.in-Some-2.work)) in
    let looked : Goes mid new call = rw (c.in_ok-work.was, c.in-Some-2.is) at c.look.ensures.goes in
    let unspent = none_of new.spent (live mid new (c.in-Some.at, c.in-Some.number) c.in-Some-2.work looked) in
    subst (λ (cs : List Call). Contains cs call) (sym (one_call mid new call looked unspent)) (Contains-push mid.calls call)

pub finish-requires-clause-sound : goal.finish-requires-clause-sound
finish-requires-clause-sound g c =
    let old = g.B.Bench.benched c.args.bench.now in
    let mid = g.B.Bench.benched c.find.new.bench in
    let new = g.B.Bench.benched c.look.new.self in
    let call = Look c.in-Some.at c.in-Some.number (Ok (Some c.in-Some-2.work)) in
    let looked : Goes mid new call = rw (c.in_ok-work.was, c.in-Some-2.is) at c.look.ensures.goes in
    sound_grows old new c.args.cache.now c.args.unkept.now.last (stays_on old mid new c.find.ensures.found.stays (stays_of mid new call looked)) c.requires

pub returns-clause-turned : goal.returns-clause-turned
returns-clause-turned g c =
    let old = g.B.Bench.benched c.args.bench.now in
    let mid = g.B.Bench.benched c.find.new.bench in
    let looked_at = g.B.Bench.benched c.look.new.self in
    let new = g.B.Bench.benched c.finish.new.bench in
    let job : As × ℕ = (c.in-Some.at, c.in-Some.number) in
    let work = c.in-Some-2.work in
    let f : IsFound c.args.index old mid (Some job) = rw c.in-Some.is at c.find.ensures.found in
    let looked : Goes mid looked_at (Look job.0 job.1 (Ok (Some work))) = rw (c.in_ok-work.was, c.in-Some-2.is) at c.look.ensures.goes in
    rw c.before-2.ensures
    (full_turn c.args.index old mid looked_at new (g.G.Gate.passed c.args.gate.now) c.args.unkept.now.last c.finish.new.cache c.finish.new.unkept.last job work f looked c.finish.result c.finish.ensures.finished)
