-- How much a text gives: a line feeds no more octets than it has bytes, and lines are no longer than their text.
use Rattle.std.specs.Prelude.{◌≡◌, ◌≤◌, ℕ, List, length, Some}
use Rattle.std.specs.List.{sum_by}
use Rattle.line_text.specs.Lines.{NumberedLine, told_lines}
use Rattle.plant_laws.specs.plant_model.Types.{LineEvent, NetworkParts}
use Rattle.plant_text.specs.Lines.{line_in, octets_of}

-- A line of `play` feeds no more octets than the line has bytes.
abbrev pub FeedsAreShort : Type 0
FeedsAreShort = (n : NetworkParts) (line : List ℕ) (e : LineEvent) → line_in n line ≡ Some (Some e) → length (octets_of e) ≤ length line

-- how many bytes lines have together
abbrev pub all_lengths : List NumberedLine → ℕ
all_lengths lines = sum_by (λ (line : NumberedLine). length line.text) lines

-- The lines that are neither blank nor comments have together no more bytes than their text.
abbrev pub LinesAreShort : Type 0
LinesAreShort = (text : List ℕ) → all_lengths (told_lines text) ≤ length text
