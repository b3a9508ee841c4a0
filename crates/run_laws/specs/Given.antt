-- Each line of a network without topologies asks for an event that such a network has.
use Rattle.std.specs.Prelude.{◌≡◌, ℕ, List, Some}
use Rattle.plant_laws.specs.plant_model.Types.{LineEvent, NetworkParts}
use Rattle.plant_text.specs.declared.line.LineEvent.TheVariants as line
use Rattle.plant_text.specs.Lines.{blind_line_in}
use Rattle.plant_laws.specs.plant_model.Blind.{AreGivenRows}

-- No topology is loaded or changed, nothing of a solved job is shown, and jobs are not solved by themselves. The rows of a solve are
-- in order, of few entries, and none is dearer than the greatest cost.
abbrev pub IsBlindLine : LineEvent → Type 0
IsBlindLine (line.Load at name) = ⊥
IsBlindLine (line.Change at name) = ⊥
IsBlindLine (line.Solve at k rows) = AreGivenRows rows
IsBlindLine line.Finish = ⊥
IsBlindLine line.CertifyOn = ⊥
IsBlindLine line.DiscloseOn = ⊥
IsBlindLine e = Unit {0}

-- Each line of `blind` asks for such an event.
abbrev pub BlindLinesAreGiven : Type 0
BlindLinesAreGiven = (n : NetworkParts) (text : List ℕ) (e : LineEvent) → blind_line_in n text ≡ Some (Some e) → IsBlindLine e
