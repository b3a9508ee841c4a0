-- The values that texts give are within the ranges of their types.
use Rattle.std.specs.Prelude.{◌≡◌, ◌<◌, ℕ, List, All, Some, Ok}
use Rattle.te_links.specs.Rows.{Rows}
use Rattle.te_text.specs.Reads.{Reads}
use Rattle.te_deltas.specs.Answers.{IsBuiltOf}
use Rattle.te_deltas.specs.ChangeText.{text_in}
use Rattle.te_deltas.specs.declared.changes.Change.{Change}
use Rattle.plant_laws.specs.plant_model.Types.{LineEvent, NetworkParts}
use Rattle.plant_text.specs.Lines.{blind_line_in, line_in, octets_of}
use Rattle.plant_laws.specs.plant_model.Plant.{AreInRange}

-- A topology that a text gives is in range.
abbrev pub TextsAreInRange : Type 0
TextsAreInRange = (text : List ℕ) (g : Rows) → Reads text g → AreInRange g

-- Changes that a text gives make of a topology in range one in range.
abbrev pub ChangesKeepRange : Type 0
ChangesKeepRange = (text : List ℕ) (changes : List Change) (g t : Rows) → text_in text ≡ Ok changes → IsBuiltOf g changes t → AreInRange g → AreInRange t

abbrev pub AreOctets : List ℕ → Type 0
AreOctets bytes = All (λ b. b < 256) bytes

-- The bytes that a line of `play` feeds are octets.
abbrev pub FeedsAreOctets : Type 0
FeedsAreOctets = (n : NetworkParts) (line : List ℕ) (e : LineEvent) → line_in n line ≡ Some (Some e) → AreOctets (octets_of e)

-- So is what a line of `blind` feeds.
abbrev pub BlindFeedsAreOctets : Type 0
BlindFeedsAreOctets = (n : NetworkParts) (line : List ℕ) (e : LineEvent) → blind_line_in n line ≡ Some (Some e) → AreOctets (octets_of e)
