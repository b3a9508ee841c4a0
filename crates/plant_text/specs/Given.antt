-- The answers of a reader of lines: what the line says, or at any time "out of memory".
use Rattle.std.specs.Prelude.{◌≡◌, Option, Some, None, Result, Ok, Err}
use Rattle.plant_text.specs.declared.line.LineError.{LineError}
use Rattle.plant_text.specs.declared.line.LineError.TheVariants.{Outside, NoMemory}

abbrev pub Gives : {X : Type 0} → Result X LineError → Option X → Type 0
Gives (Ok x) said = said ≡ Some x
Gives (Err Outside) said = said ≡ None
Gives (Err NoMemory) said = Unit {0}
