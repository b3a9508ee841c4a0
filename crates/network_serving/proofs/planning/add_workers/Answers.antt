use Rattle.std.proofs.Common.{◌∙◌, ap, arith}
use Rattle.cost_cache.specs.declared.cache.Cache.{Cache}
use Rattle.turn_desk.specs.Desks.{stand_of}
use Rattle.turn_desk.specs.WorkBenches.{desk_of}
use Rattle.network_serving.proofs.Plans.{beside, one_added, work_added}
use Rattle.network_serving.proofs.planning.add_workers.Goals as goal

pub loop-index-preserved : goal.loop-index-preserved
loop-index-preserved g c =
    let s = stand_of c.args.desk.now in
    record {
      stand = c.in_ok-desk_beside.ensures.stand ∙ c.loop-index.invariant.stand;
      seats = omega (arith, c.in_ok-desk_beside.ensures.seat, c.loop-index.invariant.seats);
      adds = work_added g.K.Listener.opened_at g.K.Listener.heeds g.K.Listener.dialled_to s c.loop-index.index c.args.tasks.now.items c.loop-index.tasks.items c.push_task.new.tasks.items c.loop-index.invariant.adds
          (one_added g.K.Listener.opened_at g.K.Listener.heeds g.K.Listener.dialled_to s c.loop-index.tasks.items _ c.push_task.new.tasks.items
          (ap (λ (k : Cache). k.entries) c.in_ok-cache.ensures.empty, beside (desk_of c.new-bench.result) (stand_of c.loop-index.desk) s (c.new-bench.ensures.desk ∙ c.in_ok-desk_beside.ensures.ok) c.loop-index.invariant.stand c.requires.fresh) c.in_ok-push_task.ensures.ok);
    }
