-- The elements of a network and the parent above them as contracts see them, by their fields.
use Rattle.std.specs.Prelude.{ℕ, List}
use Rattle.pce_common.specs.plant_model.Types.{NetworkParts}
use Rattle.pce_element.specs.Seen.{Seen}
use Rattle.pce_parent.specs.Seen as above
use Rattle.network_members.specs.Tiers.{Tiers, AreSet}

abbrev pub tiers_of : {P : Type 0} {S : Type 0} → NetworkParts → ℕ → List (Seen P S) → above.Seen → Tiers P S
tiers_of network clock elements parent = record { network = network; clock = clock; elements = elements; parent = parent }

abbrev pub HoldsTiers : {P : Type 0} {S : Type 0} → Tiers P S → Type 0
HoldsTiers t = AreSet t
