use Rattle.std.proofs.Common.{take}
use Rattle.pce_common.specs.plant_model.RealWire.{wire}
use Rattle.pce_common.specs.plant_model.Events as events
use Rattle.network_links.specs.Carried.{flow_of}
use Rattle.network_events.specs.Standing.{Goes, here}
use Rattle.network_events.proofs.opening.begin_all.Given as goal

abbrev pub invariant-loop-k : goal.invariant-loop-k
invariant-loop-k g l =
    Goes (λ n. events.begin_adjacencies g.M.Members.Pin g.M.Members.Key wire n g.M.Members.show (take l.k (flow_of l.initial.traffic).adjacencies))
    (here (g.M.Members.stands l.members) (flow_of l.initial.traffic))
    (here (g.M.Members.stands l.members) (flow_of l.traffic))
