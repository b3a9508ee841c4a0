-- The elements as contracts see them, by their fields.
use Rattle.std.specs.Prelude.{◌≡◌, List, map}
use Rattle.pce_common.specs.plant_model.Types.{As}
use Rattle.pce_element.specs.Seen.{Seen}
use Rattle.network_members.specs.Elements.{own_of}

-- each stands at the place of its domain
abbrev pub HoldsDomains : {P : Type 0} {S : Type 0} → List As → List (Seen P S) → Type 0
HoldsDomains domains items = map own_of items ≡ domains
