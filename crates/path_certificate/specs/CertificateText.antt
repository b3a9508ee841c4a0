-- The text of a certificate as it is written: its header, then the labels in their order, and last the path.
use Rattle.std.specs.Prelude.{◌≡◌, ℕ, List, [], ◌∷◌, ◌++◌, Option, Some, None, map, decimal}
use Rattle.std.specs.List.{flat_map, AllByRecursion}
use Rattle.dom_base.specs.declared.addr.Addr.{Addr}
use Rattle.dom_base.specs.declared.names.As.{As}
use Rattle.dom_base.specs.declared.query.Label.{Label}
use Rattle.dom_base.specs.AddrText.{addr_in, addr_text}
use Rattle.line_text.specs.Spelling.{line_text, text_of, IsLine}
use Rattle.path_certificate.specs.declared.certificate.Certificate.{Certificate}
use Rattle.path_certificate.specs.declared.text_row.TextRow.{TextRow}
use Rattle.path_certificate.specs.declared.text_row.TextRow.TheVariants as rows
use Rattle.path_certificate.specs.RowText.{label_word, path_word, dash, row_in}
use Rattle.path_certificate.specs.Text.{certificate_word, own_behind}

abbrev pub header_words : As → List (List ℕ)
header_words own = certificate_word ∷ decimal own.0 ∷ []

abbrev pub row_words : TextRow → List (List ℕ)
row_words (rows.Label addr None) = label_word ∷ addr_text addr ∷ dash ∷ []
row_words (rows.Label addr (Some a)) = label_word ∷ addr_text addr ∷ decimal a.cost ∷ addr_text a.exit ∷ []
row_words (rows.Path None) = path_word ∷ dash ∷ []
row_words (rows.Path (Some addrs)) = path_word ∷ map addr_text addrs

abbrev pub label_words : Addr × Option Label → List (List ℕ)
label_words row = row_words (rows.Label row.0 row.1)

abbrev pub certificate_text : Certificate → List ℕ
certificate_text c = text_of (header_words c.own ∷ (map label_words c.labels ++ row_words (rows.Path c.path) ∷ []))

abbrev pub rows_text : List (Addr × Option Label) → List ℕ
rows_text labels = flat_map (λ row. line_text (label_words row)) labels

-- a blank before each word
abbrev pub spaced : List (List ℕ) → List ℕ
spaced words = flat_map (λ word. 32 ∷ word) words

-- addresses that are read again
abbrev pub AreAddrs : List Addr → Type 0
AreAddrs addrs = AllByRecursion (λ addr. addr_in (addr_text addr) ≡ Some addr) addrs

-- the words of a row make a line, which says the row again
pub record IsWritten (row : TextRow) : Type 0 where
  pub line : IsLine (row_words row)
  pub again : row_in (row_words row) ≡ Some row

pub record IsWrittenHeader (own : As) : Type 0 where
  pub line : IsLine (header_words own)
  pub again : own_behind certificate_word (header_words own) ≡ Some own

-- the addresses of a path, if there is one, are read again
abbrev pub IsPathWritten : Option (List Addr) → Type 0
IsPathWritten None = Unit {0}
IsPathWritten (Some addrs) = AreAddrs addrs
