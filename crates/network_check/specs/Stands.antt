-- Where a row of settings stands, and what it is called.
use Rattle.std.specs.Prelude.{ℕ, List}
use Rattle.network_check.specs.declared.rows.Row.{Row}
use Rattle.network_check.specs.declared.sections.Section.{Section}
use Rattle.network_check.specs.Places.{key_line, line_of}
use Rattle.network_check.specs.Sections.{header_of}

-- the file and its text, the table, the place of the row there, and its name
pub record Stand : Type 0 where
  pub file : List ℕ
  pub text : List ℕ
  pub section : Section
  pub index : ℕ
  pub label : List ℕ

abbrev pub stand : List ℕ → List ℕ → Section → ℕ → List ℕ → Stand
stand file text section i label = record { file = file; text = text; section = section; index = i; label = label }

abbrev pub stand_of : Row → Stand
stand_of r = stand r.page.file.now r.page.text.now r.section r.index r.label.now

-- the line of the row, and that of a key of it
abbrev pub line_of_row : Stand → ℕ
line_of_row s = line_of s.text (header_of s.section) s.index

abbrev pub line_of_key : Stand → List ℕ → ℕ
line_of_key s key = key_line s.text (header_of s.section) s.index key
