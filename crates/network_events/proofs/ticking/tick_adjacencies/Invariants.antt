use Rattle.std.proofs.Common.{◌*◌, length, take}
use Rattle.plant_text.specs.Settings.{adjacencies}
use Rattle.pce_common.specs.plant_model.RealWire.{wire}
use Rattle.pce_common.specs.plant_model.Deeds as deeds
use Rattle.network_links.specs.Carried.{flow_of}
use Rattle.network_events.specs.Standing.{here}
use Rattle.network_events.proofs.TickingLaws.{Until}
use Rattle.network_events.proofs.ticking.tick_adjacencies.Given as goal

abbrev pub invariant-loop-k : goal.invariant-loop-k
invariant-loop-k g l =
    Until (λ n. deeds.tick_adjacencies g.M.Members.Pin g.M.Members.Key wire n g.M.Members.show (take l.k (adjacencies (g.M.Members.stands l.initial.members).network)) l.now) (4 * l.k) l.k
    (length (adjacencies (g.M.Members.stands l.initial.members).network))
    (here (g.M.Members.stands l.initial.members) (flow_of l.initial.traffic))
    (here (g.M.Members.stands l.members) (flow_of l.traffic))
