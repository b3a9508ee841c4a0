-- The TOML document of a settings text, or the line at which a text is none.
use Rattle.std.specs.Prelude.{◌≡◌, ◌⊎◌, ◌+◌, ◌==◌, ◌≤◌, ℕ, List, length, take, count_by, Some, None}
use Rattle.std.specs.Str.{IsUtf8}
use Rattle.std.specs.Str.Lossy.{utf8_valid_len}
use Rattle.toml.specs.View.{table_view}
use Rattle.plant_text.specs.Reads.{document}
use Rattle.network_check.specs.declared.documents.Parsed.{Parsed}
use Rattle.network_check.specs.declared.documents.Parsed.TheVariants.{Document, NoneAt}

-- the line at a place of a text, by the line ends before it
abbrev pub line_of_place : List ℕ → ℕ → ℕ
line_of_place text place = count_by (λ c. c == 10) (take place text) + 1

-- the line of the first octet that is not UTF-8
abbrev pub IsBadOctet : List ℕ → ℕ → Type 0
IsBadOctet text line = (¬ IsUtf8 text) × (line ≡ line_of_place text (utf8_valid_len text))

-- the text is UTF-8, and this is the line of a place in it
abbrev pub IsBadToml : List ℕ → ℕ → Type 0
IsBadToml text line = IsUtf8 text × ((place : ℕ) × (place ≤ length text) × (line ≡ line_of_place text place))

-- it is no document, and the reader of TOML stopped in this line
abbrev pub IsNoneAt : List ℕ → ℕ → Type 0
IsNoneAt text line = (document text ≡ None) × (IsBadOctet text line ⊎ IsBadToml text line)

abbrev pub IsParsed : List ℕ → Parsed → Type 0
IsParsed text (Document root) = document text ≡ Some (table_view root)
IsParsed text (NoneAt line) = IsNoneAt text line
