-- Settings that a text gives are those of a network, and so they are with the client `path` of an element.
use Rattle.std.specs.Prelude.{◌≡◌, ℕ, true, List}
use Rattle.plant_laws.specs.plant_model.Types.{As, NetworkParts}
use Rattle.plant_text.specs.Networks.{ObeysRules, with_path}
use Rattle.plant_text.specs.Reads.{Reads}
use Rattle.plant_text.specs.Settings.{is_element as has_element}
use Rattle.plant_laws.specs.plant_model.Laws.{IsNetwork}

-- Settings that a text gives obey the rules of a network.
abbrev pub SettingsAreNetworks : Type 0
SettingsAreNetworks = (bytes : List ℕ) (n : NetworkParts) → Reads bytes n → ObeysRules n

-- So do they with the client `path` of one of their elements.
abbrev pub ClientsAreAdded : Type 0
ClientsAreAdded = (bytes : List ℕ) (n : NetworkParts) (at : As) → Reads bytes n → has_element n at ≡ true → ObeysRules (with_path n at)

-- Such settings are a network of the model: what the rules say of it, and the ranges of its numbers.
abbrev pub SettingsAreModelled : Type 0
SettingsAreModelled = (bytes : List ℕ) (n : NetworkParts) → Reads bytes n → IsNetwork n

-- So are they with the client `path` of one of their elements.
abbrev pub ClientsAreModelled : Type 0
ClientsAreModelled = (bytes : List ℕ) (n : NetworkParts) (at : As) → Reads bytes n → has_element n at ≡ true → IsNetwork (with_path n at)
