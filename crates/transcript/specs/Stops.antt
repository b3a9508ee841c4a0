-- How long a script and its lines may be, and the report of a line that is too long.
use Rattle.std.specs.Prelude.{◌≡◌, ℕ, List, codes}
use Rattle.line_text.specs.Lines.{NumberedLine}
use Rattle.transcript.specs.declared.stop.Stop.{Stop}
use Rattle.transcript.specs.declared.stop.Stop.TheVariants as stop

-- how many bytes a line may have, and a script
abbrev pub line_most : ℕ
line_most = 262144

abbrev pub script_most : ℕ
script_most = 67108864

-- the name that a script has, where one of its lines is too long
abbrev pub input_name : List ℕ
input_name = codes "input"

-- a line as it is counted
abbrev pub numbered : ℕ → List ℕ → NumberedLine
numbered number text = record { number = number; text = text }

-- the file, unless memory runs out
abbrev pub IsTooLarge : List ℕ → Stop → Type 0
IsTooLarge name (stop.TooLarge file) = file ≡ name
IsTooLarge name stop.NoMemory = Unit {0}
IsTooLarge name why = ⊥
