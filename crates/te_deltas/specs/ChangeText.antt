-- The text of changes: lines of `add` and a row, or of `drop` and a row, where an inner link and an out link are dropped by the far
-- address alone.
use Rattle.std.specs.Prelude.{ℕ, List, [], ◌∷◌, Option, Some, None, Result, Ok, codes, if◌then◌else◌}
use Rattle.std.specs.Str.{bytes_eq}
use Rattle.dom_base.specs.declared.addr.Addr.{Addr}
use Rattle.dom_base.specs.AddrText.{addr_in}
use Rattle.dom_base.specs.Steps.{◌>>=◌}
use Rattle.line_text.specs.Words.{words_of}
use Rattle.line_text.specs.Lines.{NumberedLine, told_lines}
use Rattle.te_text.specs.declared.row.TextRow.{TextRow}
use Rattle.te_text.specs.declared.row.TextRow.TheVariants as rows
use Rattle.te_text.specs.declared.error.TextError.{TextError}
use Rattle.te_text.specs.Reading.{and_then, or_syntax}
use Rattle.te_text.specs.RowText.{first, last, row_in}
use Rattle.te_deltas.specs.declared.changes.Change.{Change}
use Rattle.te_deltas.specs.declared.changes.Change.TheVariants.{AddNode, DropNode, AddLink, DropLink, AddOut, DropOut, AddEntry, DropEntry}

-- how many bytes a change file may have
abbrev pub change_file_most : ℕ
change_file_most = 4194304

abbrev pub add_of : TextRow → Change
add_of (rows.Node n) = AddNode n
add_of (rows.Link l) = AddLink l
add_of (rows.Out o) = AddOut o
add_of (rows.Entry e) = AddEntry e

-- a link and an out link are not dropped by their rows
abbrev pub drop_of : TextRow → Option Change
drop_of (rows.Node n) = Some (DropNode n)
drop_of (rows.Link l) = None
drop_of (rows.Out o) = None
drop_of (rows.Entry e) = Some (DropEntry e)

-- the far address, and no other word
unfoldable pub far_in : List (List ℕ) → Option Addr
far_in words = do
  far ← first addr_in words
  last far.0 far.1

-- the words behind `drop`
unfoldable pub dropped_in : List (List ℕ) → Option Change
dropped_in [] = None
dropped_in (kind ∷ words) =
    if bytes_eq kind (codes "link") then (far_in words >>= λ far. Some (DropLink far))
    else (if bytes_eq kind (codes "out") then (far_in words >>= λ far. Some (DropOut far))
    else (row_in (kind ∷ words) >>= drop_of))

-- the change that the words of a line say
unfoldable pub change_in : List (List ℕ) → Option Change
change_in [] = None
change_in (verb ∷ words) =
    if bytes_eq verb (codes "add") then (row_in words >>= λ row. Some (add_of row))
    else (if bytes_eq verb (codes "drop") then dropped_in words else None)

-- the change of a line
unfoldable pub change_at : NumberedLine → Result Change TextError
change_at line = or_syntax line.number (words_of line.text >>= change_in)

-- the changes of lines, or the first line that is outside the form
unfoldable pub changes_in : List NumberedLine → Result (List Change) TextError
changes_in [] = Ok []
changes_in (line ∷ lines) = and_then (change_at line) (λ change. and_then (changes_in lines) (λ others. Ok (change ∷ others)))

-- what a text says
abbrev pub text_in : List ℕ → Result (List Change) TextError
text_in bytes = changes_in (told_lines bytes)
