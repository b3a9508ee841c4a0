-- The current topology of an element of a network.
use Rattle.std.specs.Prelude.{Option}
use Rattle.network_events.specs.plant_model.Types.{As}
use Rattle.network_events.specs.plant_model.Plant.{Pin}
use Rattle.network_members.specs.Current as hierarchy
use Rattle.plant_network.specs.Whole.{Whole}

-- the topology and its number; none where there is no such element
abbrev pub IsCurrent : Whole → As → Option Pin → Type 0
IsCurrent w d pin = hierarchy.IsCurrent w.network w.state.current d pin
