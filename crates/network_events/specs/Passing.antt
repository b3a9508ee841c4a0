-- The traffic of a network between events.
use Rattle.std.specs.Prelude.{◌≡◌, length}
use Rattle.pce_common.specs.plant_model.Types.{NetworkParts}
use Rattle.plant_text.specs.Settings.{adjacencies}
use Rattle.network_links.specs.Flow.{Flow}

-- the links and the outside peers are those of the settings
pub record IsOf (n : NetworkParts) (f : Flow) : Type 0 where
  pub adjacencies_are : f.adjacencies ≡ adjacencies n
  pub peers_are : f.peers ≡ length n.peers
