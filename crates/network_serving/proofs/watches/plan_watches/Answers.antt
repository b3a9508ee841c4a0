use Rattle.network_serving.proofs.WatchTasks.{no_watches}
use Rattle.ted_watch.specs.Watch.{carried, list_told}
use Rattle.network_serving.proofs.watches.plan_watches.Goals as goal

pub returns-in-None-clause-ok : goal.returns-in-None-clause-ok
returns-in-None-clause-ok g c =
    rw c.in-None.is (no_watches g.Q.Port.Listener.opened_at g.Q.Port.Listener.heeds g.Q.Port.Listener.dialled_to (carried c.args.told.now) (list_told c.args.told.now) c.new.result.items c.new.ensures.items)
