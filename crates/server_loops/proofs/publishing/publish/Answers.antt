use Rattle.std.proofs.Common.{◌∙◌, sym}
use Rattle.plant_text.specs.Settings.{is_element}
use Rattle.ted_watch.specs.Watch.{published}
use Rattle.server_loops.specs.Operating.{past}
use Rattle.server_loops.proofs.Doing.{none_due}
use Rattle.server_loops.proofs.publishing.publish.Goals as goal

pub returns-else-is_element-clause-publishes : goal.returns-else-is_element-clause-publishes
returns-else-is_element-clause-publishes g c =
    none_due c.args.at (is_element c.args.network.now c.args.at) (past (g.D.Chart.charted c.args.desk.now) (published c.args.publisher.now)) (g.D.Chart.charted c.args.desk.now).spent (sym c.is_element.ensures ∙ c.if-is_element.false) c.requires.fresh
