use Rattle.std.proofs.Common.{◌≡◌, ◌∙◌, ap, inl, inr}
use Rattle.std.specs.declared.option.Option.{Option}
use Rattle.std.proofs.lemmas.Result.{err_from_is_err_and}
use Rattle.border_costs.specs.declared.job.Job.{Job}
use Rattle.server_loops.specs.Benches.{Goes, Finish}
use Rattle.server_loops.specs.WorkerSteps.{last_after}
use Rattle.server_loops.specs.declared.benches.Finished.TheVariants.{Kept as Taken, Stranger, NoMemory as NoRoom}
use Rattle.server_loops.proofs.Righting.{can_solve, last_of, sound_after}
use Rattle.server_loops.proofs.WorkerTurning.{handed_back, no_room, unsolved}
use Rattle.server_loops.proofs.worker_turn.finish.Goals as goal

pub solve-requires : goal.solve-requires
solve-requires g c = record { can = can_solve (g.B.Bench.benched c.args.bench.now) c.args.cache.now c.args.work c.requires.sound.right c.requires.given }

pub returns-in-Kept-clause-finished : goal.returns-in-Kept-clause-finished
returns-in-Kept-clause-finished g c =
    let old = g.B.Bench.benched c.args.bench.now in
    let new = g.B.Bench.benched c.finish.new.self in
    let work = c.args.work in
    let before = c.args.unkept.now.last in
    let cache = c.solve.new.cache in
    let last = c.finished.new.self.last in
    let done = c.in_ok-done.done in
    let right = c.solve.ensures.right old c.requires.given c.requires.sound.right in
    let is : last ≡ last_after work before = c.finished.ensures.last ∙ ap (λ (l : Option Job). last_after work l) c.solve.ensures.last in
    let is_last = last_of work before last is in
    let sound = sound_after old work cache before last c.requires.given right c.requires.sound.known_last is in
    elim c.in-Kept.is [
      | inl taken ↦
          let goes : Goes old new (Finish done Taken) = rw taken at c.finish.ensures.goes in
          handed_back work old new before cache last done Taken c.in_ok-done.ensures.of (λ is. let no : Taken ≡ NoRoom = is in cc) goes is_last sound
      | inr late ↦
          let goes : Goes old new (Finish done Stranger) = rw late at c.finish.ensures.goes in
          handed_back work old new before cache last done Stranger c.in_ok-done.ensures.of (λ is. let no : Stranger ≡ NoRoom = is in cc) goes is_last sound
    ]

pub returns-in-NoMemory-clause-finished : goal.returns-in-NoMemory-clause-finished
returns-in-NoMemory-clause-finished g c =
    let old = g.B.Bench.benched c.args.bench.now in
    let new = g.B.Bench.benched c.finish.new.self in
    let done = c.in_ok-done.done in
    let goes : Goes old new (Finish done NoRoom) = rw c.in-NoMemory.is at c.finish.ensures.goes in
    no_room c.args.work old new c.args.unkept.now.last c.solve.new.cache c.solve.new.unkept.last done (record {}) c.in_ok-done.ensures.of goes

pub returns-in_err-done-clause-finished : goal.returns-in_err-done-clause-finished
returns-in_err-done-clause-finished g c =
    let p = err_from_is_err_and c.from_residual.result c.from_residual.ensures.1 in
    rw p.1 (unsolved c.args.work (g.B.Bench.benched c.args.bench.now) c.args.unkept.now.last c.solve.new.cache c.solve.new.unkept.last p.0 c.requires.live)
