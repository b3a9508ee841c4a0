-- The answers of a reader: what the words or lines say, or at any time "out of memory".
use Rattle.std.specs.Prelude.{◌≡◌, Option, Some, None, Result, Ok, Err}
use Rattle.te_text.specs.declared.row.RowError.{RowError}
use Rattle.te_text.specs.declared.row.RowError.TheVariants as row
use Rattle.te_text.specs.declared.error.TextError.{TextError}
use Rattle.te_text.specs.declared.error.TextError.TheVariants as text

abbrev pub GivesRow : {X : Type 0} → Result X RowError → Option X → Type 0
GivesRow (Ok x) said = said ≡ Some x
GivesRow (Err row.Syntax) said = said ≡ None
GivesRow (Err row.NoMemory) said = Unit {0}

abbrev pub GivesText : {X : Type 0} → Result X TextError → Result X TextError → Type 0
GivesText (Ok x) said = said ≡ Ok x
GivesText (Err (text.At line fault)) said = said ≡ Err (text.At line fault)
GivesText (Err text.NoMemory) said = Unit {0}
