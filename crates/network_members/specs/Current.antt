-- The current topology of an element.
use Rattle.std.specs.Prelude.{◌≡◌, true, false, Option, Some, None}
use Rattle.pce_common.specs.plant_model.Types.{As, NetworkParts}
use Rattle.plant_text.specs.Settings.{is_element}
use Rattle.pce_common.specs.plant_model.Plant.{Pin}

-- the topology and its number; none where there is no such element
abbrev pub IsCurrent : NetworkParts → (As → Pin) → As → Option Pin → Type 0
IsCurrent n current d None = is_element n d ≡ false
IsCurrent n current d (Some pin) = (is_element n d ≡ true) × (pin ≡ current d)
