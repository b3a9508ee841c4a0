-- What a text says of a topology: `topology AS` first, and then the rows, each with the number of its line.
use Rattle.std.specs.Prelude.{ℕ, List, [], ◌∷◌, Option, Some, None, Result, Ok, Err, Bool, false, codes, if◌then◌else◌}
use Rattle.std.specs.Str.{bytes_eq}
use Rattle.dom_base.specs.declared.names.As.{As}
use Rattle.dom_base.specs.Steps.{◌>>=◌}
use Rattle.line_text.specs.Words.{all_words, words_of}
use Rattle.line_text.specs.Lines.{NumberedLine, told_lines}
use Rattle.te_links.specs.declared.fault.TopoFault.TheVariants.{Syntax, NoHeader}
use Rattle.te_text.specs.declared.row.TextRow.{TextRow}
use Rattle.te_text.specs.declared.row.TextRow.TheVariants as rows
use Rattle.te_text.specs.declared.reading.Reading.{Reading}
use Rattle.te_text.specs.declared.error.TextError.{TextError}
use Rattle.te_text.specs.declared.error.TextError.TheVariants.{At}
use Rattle.te_text.specs.RowText.{as_in, first, last, row_in}

-- the next step, on what was read; the first fault stays
abbrev pub and_then : {X Y : Type 0} → Result X TextError → (X → Result Y TextError) → Result Y TextError
and_then (Ok x) others = others x
and_then (Err fault) others = Err fault

-- what a line says, or that it is outside the form
abbrev pub or_syntax : {X : Type 0} → ℕ → Option X → Result X TextError
or_syntax line (Some x) = Ok x
or_syntax line None = Err (At line Syntax)

-- ---- the header

abbrev pub topology_word : List ℕ
topology_word = codes "topology"

-- behind the first word: AS, and no other word
unfoldable pub own_behind : List (List ℕ) → Option As
own_behind words = do
  own ← first as_in words
  last own.0 own.1

abbrev pub header_own : List (List ℕ) → Option As
header_own [] = None
header_own (name ∷ words) = own_behind words

abbrev pub begins_topology : List (List ℕ) → Bool
begins_topology [] = false
begins_topology (word ∷ words) = bytes_eq word topology_word

-- `topology AS`; a line whose first word is another is no header at all
unfoldable pub header_at : NumberedLine → Result As TextError
header_at line =
    if begins_topology (all_words line.text) then or_syntax line.number (words_of line.text >>= header_own) else Err (At line.number NoHeader)

-- ---- the rows

-- the row of a line
unfoldable pub row_at : NumberedLine → Result TextRow TextError
row_at line = or_syntax line.number (words_of line.text >>= row_in)

-- the rows of lines, with the numbers of their lines
unfoldable pub rows_in : List NumberedLine → Result (List (ℕ × TextRow)) TextError
rows_in [] = Ok []
rows_in (line ∷ lines) = and_then (row_at line) (λ row. and_then (rows_in lines) (λ others. Ok ((line.number, row) ∷ others)))

-- ---- the whole

abbrev pub no_rows : As → Reading
no_rows own = record {
  parts = record { own = own; nodes = []; links = []; outs = []; entries = [] };
  lines = record { nodes = []; links = []; outs = []; entries = [] };
}

-- a row stands at the front of its list, and its line at the same place
abbrev pub with_first : ℕ × TextRow → Reading → Reading
with_first (line, rows.Node n) r = record { parts = record r.parts { nodes = n ∷ r.parts.nodes }; lines = record r.lines { nodes = line ∷ r.lines.nodes } }
with_first (line, rows.Link l) r = record { parts = record r.parts { links = l ∷ r.parts.links }; lines = record r.lines { links = line ∷ r.lines.links } }
with_first (line, rows.Out o) r = record { parts = record r.parts { outs = o ∷ r.parts.outs }; lines = record r.lines { outs = line ∷ r.lines.outs } }
with_first (line, rows.Entry e) r = record { parts = record r.parts { entries = e ∷ r.parts.entries }; lines = record r.lines { entries = line ∷ r.lines.entries } }

-- the rows by their kinds, in the order of the text
abbrev pub reading_of : As → List (ℕ × TextRow) → Reading
reading_of own [] = no_rows own
reading_of own (row ∷ others) = with_first row (reading_of own others)

-- what lines say, or the first that is outside the form; line 1 where none tells anything
unfoldable pub reading_in : List NumberedLine → Result Reading TextError
reading_in [] = Err (At 1 NoHeader)
reading_in (line ∷ lines) = and_then (header_at line) (λ own. and_then (rows_in lines) (λ placed. Ok (reading_of own placed)))

-- what a text says
abbrev pub text_in : List ℕ → Result Reading TextError
text_in bytes = reading_in (told_lines bytes)
