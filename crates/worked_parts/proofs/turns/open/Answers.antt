use Rattle.plant_network.specs.Topologies.{whole}
use Rattle.turn_desk.proofs.Beginning.{begun_has_none}
use Rattle.worked_parts.proofs.turns.open.Goals as goal

pub open-requires-clause-begun : goal.open-requires-clause-begun
open-requires-clause-begun g c = begun_has_none c.in_ok-network.network (whole c.in-Ok.plant) c.in-Ok.ensures
