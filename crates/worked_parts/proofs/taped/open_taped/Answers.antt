use Rattle.plant_network.specs.Topologies.{whole}
use Rattle.turn_desk.proofs.Beginning.{begun_has_none}
use Rattle.worked_parts.proofs.taped.open_taped.Goals as goal

pub open_taped-requires-clause-begun : goal.open_taped-requires-clause-begun
open_taped-requires-clause-begun g c = begun_has_none c.in_ok-network.network (whole c.in-Ok.plant) c.in-Ok.ensures
