use Rattle.std.proofs.Common.{rules, ◌≡◌, ◌∙◌, ◌++◌, ◌∷◌, [], List, length, map, ap, sym, arith, append_assoc}
use Rattle.std.proofs.lemmas.List.{map-append}
use Rattle.std.proofs.lemmas.Result.{err_from_is_err_and}
use Rattle.std.specs.Vec.Iter.{into_iter_items}
use Rattle.network_serving.specs.Spawners.{bases, faults_of, started}
use Rattle.network_serving.specs.Bases.{Base, base_in}
use Rattle.network_serving.specs.Tasks.{duty_of}
use Rattle.network_serving.specs.declared.duties.Duty.{Duty}
use Rattle.network_serving.specs.Starting.{IsUnstarted}
use Rattle.network_serving.proofs.Plans.{all_taken, new_taken, taken}
use Rattle.network_serving.proofs.Starts.{unstarted_from}
use Rattle.network_serving.proofs.starting.start_all.Goals as goal

pub start-requires-clause-new : goal.start-requires-clause-new
start-requires-clause-new g c κs within =
    new_taken g.K.Listener.heeds g.K.Listener.dialled_to c.loop-task.yielded (into_iter_items c.loop-task.task-iterator) (into_iter_items c.next.new.self) c.args.tasks.items c.in-Some.task c.loop-task.invariant.new c.loop-task.invariant.whole
    c.in-Some.ensures.steps.0

pub returns-clause-ok : goal.returns-clause-ok
returns-clause-ok g c =
    let so_far = c.loop-task.invariant in
    let step = c.in-None.ensures.steps in
    let rest = into_iter_items c.loop-task.task-iterator in
    let none : length rest ≡ 0 = omega (arith, so_far.left, step.0) in
    so_far.started ∙ ap (λ ts. started c.args.spawner.now ++ map (duty_of g.K.Listener.opened_at) ts) (all_taken c.loop-task.yielded rest c.args.tasks.items so_far.whole none)

pub returns-clause-behind : goal.returns-clause-behind
returns-clause-behind g c =
    let so_far = c.loop-task.invariant in
    let step = c.in-None.ensures.steps in
    let rest = into_iter_items c.loop-task.task-iterator in
    let none : length rest ≡ 0 = omega (arith, so_far.left, step.0) in
    so_far.behind ∙ ap (λ ts. bases c.args.spawner.now ++ map base_in ts) (all_taken c.loop-task.yielded rest c.args.tasks.items so_far.whole none)

pub returns-in_err-start-clause-err : goal.returns-in_err-start-clause-err
returns-in_err-start-clause-err g c =
    let a = faults_of c.args.spawner.now in
    let b = faults_of c.loop-task.spawner in
    let d = faults_of c.start.new.spawner in
    let end : IsUnstarted (a, d) c.in_err-start.field-0.0 = unstarted_from a b d c.in_err-start.field-0.0 c.loop-task.invariant.later c.in_err-start.ensures.err in
    let from = c.from_residual.ensures in
    search (rules, end, from)

pub returns-in_err-start-clause-ok : goal.returns-in_err-start-clause-ok
returns-in_err-start-clause-ok g c =
    let p = err_from_is_err_and c.from_residual.result c.from_residual.ensures.1 in
    rw p.1 tt

pub returns-in_err-start-clause-behind : goal.returns-in_err-start-clause-behind
returns-in_err-start-clause-behind g c =
    let p = err_from_is_err_and c.from_residual.result c.from_residual.ensures.1 in
    rw p.1 tt

pub loop-task-preserved : goal.loop-task-preserved
loop-task-preserved g c =
    let so_far = c.loop-task.invariant in
    let step = c.in-Some.ensures.steps in
    let duty = duty_of g.K.Listener.opened_at in
    let old = started c.args.spawner.now in
    record {
      whole = taken c.loop-task.yielded (into_iter_items c.loop-task.task-iterator) (into_iter_items c.next.new.self) c.args.tasks.items c.in-Some.task so_far.whole step.0;
      left = omega (arith, so_far.left, step.1, ap length step.0);
      new = so_far.new;
      started = c.in_ok-start.ensures.ok
          ∙ ap (λ (ds : List Duty). ds ++ duty c.in-Some.task ∷ []) so_far.started
          ∙ append_assoc old (map duty c.loop-task.yielded) (duty c.in-Some.task ∷ [])
          ∙ ap (λ (ds : List Duty). old ++ ds) (sym (map-append duty c.loop-task.yielded (c.in-Some.task ∷ [])));
      behind = c.in_ok-start.ensures.behind
          ∙ ap (λ (bs : List Base). bs ++ base_in c.in-Some.task ∷ []) so_far.behind
          ∙ append_assoc (bases c.args.spawner.now) (map base_in c.loop-task.yielded) (base_in c.in-Some.task ∷ [])
          ∙ ap (λ (bs : List Base). bases c.args.spawner.now ++ bs) (sym (map-append base_in c.loop-task.yielded (c.in-Some.task ∷ [])));
      later = omega (arith, so_far.later, c.in_ok-start.ensures.later);
    }
