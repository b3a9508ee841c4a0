-- What a text says of a certificate: `certificate AS` first, then a line for each node that has one, in strictly rising order of address, and last the path.
use Rattle.std.specs.Prelude.{ℕ, ◌+◌, ◌==◌, Bool, List, [], ◌∷◌, length, map, nat_le, Option, Some, None, Result, Ok, Err, codes, if◌then◌else◌}
use Rattle.std.specs.Str.{bytes_eq}
use Rattle.std.specs.Str.Lines.{lines}
use Rattle.std.specs.List.{list_any}
use Rattle.dom_base.specs.AddrOrder.{rank}
use Rattle.dom_base.specs.declared.addr.Addr.{Addr}
use Rattle.dom_base.specs.declared.names.As.{As}
use Rattle.dom_base.specs.declared.query.Label.{Label}
use Rattle.dom_base.specs.Steps.{◌>>=◌}
use Rattle.line_text.specs.Words.{words_of}
use Rattle.line_text.specs.Lines.{NumberedLine, told_lines}
use Rattle.te_links.specs.Rows.{Rows}
use Rattle.te_links.specs.declared.fault.TopoFault.TheVariants.{Syntax, UnknownNode}
use Rattle.path_certificate.specs.declared.certificate.Certificate.{Certificate}
use Rattle.path_certificate.specs.declared.text_row.TextRow.{TextRow}
use Rattle.path_certificate.specs.declared.text_row.TextRow.TheVariants as rows
use Rattle.path_certificate.specs.declared.reading.Gathered.{Gathered}
use Rattle.te_text.specs.declared.error.TextError.{TextError}
use Rattle.te_text.specs.declared.error.TextError.TheVariants.{At}
use Rattle.te_text.specs.RowText.{as_in, first, last}
use Rattle.te_text.specs.Reading.{and_then, or_syntax}
use Rattle.path_certificate.specs.RowText.{row_in}

-- ---- the header: `certificate AS`

abbrev pub certificate_word : List ℕ
certificate_word = codes "certificate"

-- a word, `AS`, and no other word
unfoldable pub own_behind : List ℕ → List (List ℕ) → Option As
own_behind word [] = None
own_behind word (name ∷ words) =
    if bytes_eq name word then (do
      own ← first as_in words
      last own.0 own.1)
    else None

-- of this domain
abbrev pub same_own : As → As → Option As
same_own own number = if number.0 == own.0 then Some own else None

unfoldable pub header_at : List ℕ → As → NumberedLine → Result As TextError
header_at word own line = or_syntax line.number (words_of line.text >>= own_behind word >>= same_own own)

-- ---- the lines behind it

-- what such a line says
unfoldable pub row_at : NumberedLine → Result TextRow TextError
row_at line = or_syntax line.number (words_of line.text >>= row_in)

-- a label, with the number of its line
abbrev pub LabelLine : Type 0
LabelLine = ℕ × (Addr × Option Label)

-- the labels and the path
pub record Body : Type 0 where
  pub labels : List LabelLine
  pub path : Option (List Addr)

abbrev pub with_label : LabelLine → Body → Body
with_label label body = record { labels = label ∷ body.labels; path = body.path }

-- nothing stands behind the path
abbrev pub path_last : Option (List Addr) → List NumberedLine → Result Body TextError
path_last path [] = Ok (record { labels = []; path = path })
path_last path (line ∷ others) = Err (At line.number Syntax)

-- what a line says, with those behind it: where it has a label, they have addresses above its own
abbrev pub line_says : ℕ → ℕ → List NumberedLine → (ℕ → Result Body TextError) → TextRow → Result Body TextError
line_says number least others above (rows.Path path) = path_last path others
line_says number least others above (rows.Label addr label) =
    if nat_le least (rank addr) then and_then (above (rank addr + 1)) (λ body. Ok (with_label (number, (addr, label)) body)) else Err (At number Syntax)

-- the least place that is behind an address; with none before it, every address is behind
abbrev pub least_behind : Option Addr → ℕ
least_behind None = 0
least_behind (Some last) = rank last + 1

-- What lines say whose addresses have the place `least` or one behind it, or the first line that is outside the form; `end` is where the
-- path is missing.
unfoldable pub body_in : ℕ → ℕ → List NumberedLine → Result Body TextError
body_in end least [] = Err (At end Syntax)
body_in end least (line ∷ others) = and_then (row_at line) (line_says line.number least others (λ next. body_in end next others))

-- ---- the nodes

abbrev pub is_node : List Addr → Addr → Bool
is_node nodes addr = list_any (λ n. rank n == rank addr) nodes

-- the line of an address that is no node
abbrev pub stranger_at : List Addr → ℕ → Addr → Option ℕ
stranger_at nodes line addr = if is_node nodes addr then None else Some line

abbrev pub or_first : Option ℕ → Option ℕ → Option ℕ
or_first (Some line) other = Some line
or_first None other = other

-- the first of them
abbrev pub first_stranger : List Addr → List LabelLine → Option ℕ
first_stranger nodes [] = None
first_stranger nodes (row ∷ rows) = or_first (stranger_at nodes row.0 row.1.0) (first_stranger nodes rows)

abbrev pub gathered : List Addr → Body → Gathered
gathered nodes body = record { labels = map (λ row. row.1) body.labels; stranger = first_stranger nodes body.labels; path = body.path }

-- ---- the whole

-- a certificate, unless a line names what is no node
abbrev pub unless_stranger : As → Gathered → Option ℕ → Result Certificate TextError
unless_stranger own g None = Ok (record { own = own; labels = g.labels; path = g.path })
unless_stranger own g (Some line) = Err (At line UnknownNode)

-- what lines say, where `end` is the line after the last
abbrev pub lines_say : Rows → ℕ → List NumberedLine → Result Certificate TextError
lines_say g end [] = Err (At end Syntax)
lines_say g end (line ∷ others) =
    and_then (header_at certificate_word g.own line) (λ own. and_then (body_in end 0 others) (λ body. unless_stranger own (gathered g.nodes body) (first_stranger g.nodes body.labels)))

-- what a text says
unfoldable pub certificate_in : Rows → List ℕ → Result Certificate TextError
certificate_in g bytes = lines_say g (length (lines bytes) + 1) (told_lines bytes)
