use Rattle.std.proofs.Common.{◌&&◌, Bool, ap}
use Rattle.plant_text.specs.Settings.{is_element}
use Rattle.ted_watch.specs.Watch.{published}
use Rattle.server_loops.specs.Operating.{past}
use Rattle.server_loops.proofs.Doing.{none_due}
use Rattle.server_loops.proofs.publishing.publish_loaded.Goals as goal

pub returns-else-is_accepted-clause-publishes : goal.returns-else-is_accepted-clause-publishes
returns-else-is_accepted-clause-publishes g c =
    none_due c.args.at (c.args.is_accepted && is_element c.args.network.now c.args.at) (past (g.D.Chart.charted c.args.desk.now) (published c.args.publisher.now)) (g.D.Chart.charted c.args.desk.now).spent
    (ap (λ (b : Bool). b && is_element c.args.network.now c.args.at) c.if-is_accepted.false) c.requires.fresh
