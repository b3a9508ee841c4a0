use Rattle.std.specs.Prelude.{replicate}
use Rattle.std.proofs.Common.{rules, ◌≡◌, ◌∙◌, ℕ, List, All, length, ap, refl, subst, sym, arith}
use Rattle.ted_watch.specs.Watch.{carried, list_at, list_told}
use Rattle.network_serving.specs.Bases.{Watcher}
use Rattle.network_serving.specs.Duties.{watches_at}
use Rattle.network_serving.specs.Watches.{AreWatches, IsUnused}
use Rattle.network_serving.specs.Starting.{IsPlanEnd, called}
use Rattle.network_serving.specs.declared.duties.Duty.TheVariants.{Watch}
use Rattle.network_serving.specs.declared.duties.TheConstants.{WATCHERS}
use Rattle.network_serving.proofs.Plans.{rose_more}
use Rattle.network_serving.proofs.Starts.{plan_end}
use Rattle.network_serving.proofs.WatchTasks.{no_watches, port_in, watch_added}
use Rattle.network_serving.proofs.watches.plan_at.Goals as goal

pub returns-in_err-listener-clause-err : goal.returns-in_err-listener-clause-err
returns-in_err-listener-clause-err g c =
    let k = c.loop-index.index in
    let port : ℕ = c.args.port in
    let ports : List ℕ = replicate WATCHERS port in
    let a = g.Q.Ports.calls c.args.ports.now in
    let b = g.Q.Ports.calls c.loop-index.ports in
    let d = g.Q.Ports.faults c.args.ports.now in
    let e = g.Q.Ports.faults c.loop-index.ports in
    let new = c.open_port.new.ports in
    let end : IsPlanEnd ports (called (a, g.Q.Ports.calls new) (d, g.Q.Ports.faults new) (g.Q.Ports.failed_at new)) c.in_err-listener.field-0.0 =
    plan_end ports k port a b (g.Q.Ports.calls new) d e (g.Q.Ports.faults new) (g.Q.Ports.failed_at new) c.in_err-listener.field-0.0 (port_in port WATCHERS k c.loop-index-test.true) c.loop-index.invariant.calls c.in_err-listener.ensures.called
    c.loop-index.invariant.later c.in_err-listener.ensures.err in
    search (rules, end)

pub loop-index-preserved : goal.loop-index-preserved
loop-index-preserved g c =
    let so_far = c.loop-index.invariant in
    let known = carried c.args.told.now in
    let list = list_told c.args.told.now in
    record {
      planned = watch_added g.Q.Port.Listener.opened_at g.Q.Port.Listener.heeds g.Q.Port.Listener.dialled_to known list c.args.port c.loop-index.index c.loop-index.tasks.items _ c.push_task.new.tasks.items so_far.planned c.in_ok-push_task.ensures.ok
          (ap (λ (p : ℕ). Watch p c.loop-index.index) c.in_ok-listener.ensures.ok)
          (ap (λ s. Watcher s (list_at c.informed-watcher.result)) c.informed-watcher.ensures.known ∙ ap (λ l. Watcher known l) c.informed-watcher.ensures.list)
          c.in_ok-listener.ensures.heeds;
      unused = c.informed-watcher.ensures.unused;
      left = omega (arith, so_far.left, c.informed-watcher.ensures.fewer);
      calls = rose_more c.loop-index.index (g.Q.Ports.calls c.args.ports.now) (g.Q.Ports.calls c.loop-index.ports) (g.Q.Ports.calls c.open_port.new.ports) so_far.calls c.in_ok-listener.ensures.called;
      later = omega (arith, so_far.later, c.in_ok-listener.ensures.later);
    }

pub loop-index-init : goal.loop-index-init
loop-index-init g c =
    let same = c.into_vec-watchers.ensures in
    record {
      planned = no_watches g.Q.Port.Listener.opened_at g.Q.Port.Listener.heeds g.Q.Port.Listener.dialled_to (carried c.args.told.now) (list_told c.args.told.now) c.new-tasks.result.items c.new-tasks.ensures.items;
      unused = subst (λ ws. All (IsUnused (list_told c.args.told.now)) ws) (sym same) c.requires.unused.1;
      left = omega (arith, ap length same, c.requires.unused.0);
      calls = refl;
      later = omega arith;
    }

pub returns-clause-ok : goal.returns-clause-ok
returns-clause-ok g c =
    let all : c.loop-index.index ≡ WATCHERS = omega (arith, c.loop-index.invariant.left, c.loop-index-test.false) in
    subst (λ (n : ℕ). AreWatches g.Q.Port.Listener.opened_at g.Q.Port.Listener.heeds g.Q.Port.Listener.dialled_to (carried c.args.told.now) (list_told c.args.told.now) (watches_at c.args.port 0 n) c.loop-index.tasks.items)
    all c.loop-index.invariant.planned
