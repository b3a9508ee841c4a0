-- Which network a text gives, and why it gives none.
use Rattle.std.specs.Prelude.{◌≡◌, ◌⊎◌, ℕ, List, Option, Some, None, if◌then◌else◌}
use Rattle.std.specs.Str.{is_utf8}
use Rattle.toml.specs.Data.{Members}
use Rattle.toml.specs.Parse.{parse_document}
use Rattle.plant_text.specs.declared.settings.NetworkParts.{NetworkParts}
use Rattle.plant_text.specs.declared.fault.NetFault.{NetFault}
use Rattle.plant_text.specs.declared.fault.NetFault.TheVariants.{NotToml}
use Rattle.plant_text.specs.declared.fault.NetError.{NetError}
use Rattle.plant_text.specs.declared.fault.NetError.TheVariants.{Fault, NoMemory}
use Rattle.plant_text.specs.Rules.{rules}
use Rattle.plant_text.specs.Faults.{AreObeyed, IsFirst}
use Rattle.plant_text.specs.SettingsText.{sheet_in}

-- the TOML document of a text, which is UTF-8
abbrev pub document : List ℕ → Option Members
document bytes = if is_utf8 bytes then parse_document bytes else None

-- why a text is no document; "out of memory" says nothing about it
abbrev pub IsNoDocument : List ℕ → NetError → Type 0
IsNoDocument bytes (Fault fault) = (document bytes ≡ None) × (fault ≡ NotToml)
IsNoDocument bytes NoMemory = Unit {0}

-- the text is a document that breaks no rule, and its rows are these settings
pub record Reads (bytes : List ℕ) (n : NetworkParts) : Type 0 where
  pub root : Members
  pub reads : document bytes ≡ Some root
  pub obeyed : AreObeyed (rules (sheet_in root))
  pub rows : n ≡ (sheet_in root).parts

-- the text is a document, and this fault reports the first rule that it breaks
pub record BreaksRule (bytes : List ℕ) (fault : NetFault) : Type 0 where
  pub root : Members
  pub reads : document bytes ≡ Some root
  pub first : IsFirst (rules (sheet_in root)) fault

-- the text is no document, or it breaks a rule
abbrev pub IsFaulty : List ℕ → NetFault → Type 0
IsFaulty bytes fault = ((document bytes ≡ None) × (fault ≡ NotToml)) ⊎ BreaksRule bytes fault
