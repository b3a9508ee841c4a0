-- What a text says of a pair: `pair AS` first; then a potential for each node that has one, in strictly rising order of address, and the two paths; or a cut.
use Rattle.std.specs.Prelude.{ℕ, ◌+◌, List, [], ◌∷◌, length, nat_le, Option, Some, None, Result, Ok, Err, codes, if◌then◌else◌}
use Rattle.std.specs.Str.Lines.{lines}
use Rattle.dom_base.specs.AddrOrder.{rank}
use Rattle.dom_base.specs.declared.addr.Addr.{Addr}
use Rattle.dom_base.specs.Steps.{◌>>=◌}
use Rattle.line_text.specs.Words.{words_of}
use Rattle.line_text.specs.Lines.{NumberedLine, told_lines}
use Rattle.te_links.specs.Rows.{Rows}
use Rattle.te_links.specs.declared.fault.TopoFault.TheVariants.{Syntax}
use Rattle.te_text.specs.declared.error.TextError.{TextError}
use Rattle.te_text.specs.declared.error.TextError.TheVariants.{At}
use Rattle.te_text.specs.Reading.{and_then, or_syntax}
use Rattle.path_certificate.specs.Text.{header_at, least_behind}
use Rattle.diverse_pairs.specs.declared.certificate.PairCertificate.{PairCertificate}
use Rattle.diverse_pairs.specs.declared.certificate.PairForm.{PairForm}
use Rattle.diverse_pairs.specs.declared.certificate.PairForm.TheVariants.{Paths, Cut}
use Rattle.diverse_pairs.specs.declared.pair_row.PairRow.{PairRow}
use Rattle.diverse_pairs.specs.declared.pair_row.PairRow.TheVariants as rows
use Rattle.diverse_pairs.specs.RowText.{row_in}

-- ---- the header: `pair AS`

abbrev pub pair_word : List ℕ
pair_word = codes "pair"

-- ---- the lines behind it

-- what such a line says
unfoldable pub row_at : NumberedLine → Result PairRow TextError
row_at line = or_syntax line.number (words_of line.text >>= row_in)

abbrev pub with_potential : Addr × ℕ → PairForm → PairForm
with_potential row (Paths potentials first second) = Paths (row ∷ potentials) first second
with_potential row (Cut nodes) = Cut nodes

-- no line is left
abbrev pub nothing_in : List NumberedLine → Result (Unit {0}) TextError
nothing_in [] = Ok tt
nothing_in (line ∷ others) = Err (At line.number Syntax)

-- a line that has the second path
abbrev pub second_says : NumberedLine → List NumberedLine → PairRow → Result (List Addr) TextError
second_says line others (rows.Second other) = and_then (nothing_in others) (λ _. Ok other)
second_says line others _ = Err (At line.number Syntax)

-- the second path, and nothing behind it; `end` is where it is missing
abbrev pub second_in : ℕ → List NumberedLine → Result (List Addr) TextError
second_in end [] = Err (At end Syntax)
second_in end (line ∷ others) = and_then (row_at line) (second_says line others)

-- a cut stands alone: no potential stands before it
abbrev pub cut_says : Option Addr → ℕ → List NumberedLine → List Addr → Result PairForm TextError
cut_says None line others nodes = and_then (nothing_in others) (λ _. Ok (Cut nodes))
cut_says (Some before) line others nodes = Err (At line Syntax)

-- what a line says with those behind it; where it has a potential, they have addresses behind its own
abbrev pub line_says : ℕ → Option Addr → NumberedLine → List NumberedLine → (Addr → Result PairForm TextError) → PairRow → Result PairForm TextError
line_says end before line others behind (rows.At addr number) =
    if nat_le (least_behind before) (rank addr) then and_then (behind addr) (λ form. Ok (with_potential (addr, number) form)) else Err (At line.number Syntax)
line_says end before line others behind (rows.First one) = and_then (second_in end others) (λ other. Ok (Paths [] one other))
line_says end before line others behind (rows.Second other) = Err (At line.number Syntax)
line_says end before line others behind (rows.Cut nodes) = cut_says before line.number others nodes

-- What lines say behind the potential of an address, if there is one, or the first line that is outside the form; `end` is where a path
-- is missing.
unfoldable pub body_in : ℕ → Option Addr → List NumberedLine → Result PairForm TextError
body_in end before [] = Err (At end Syntax)
body_in end before (line ∷ others) = and_then (row_at line) (line_says end before line others (λ addr. body_in end (Some addr) others))

-- ---- the whole

-- what lines say, where `end` is the line after the last
abbrev pub lines_say : Rows → ℕ → List NumberedLine → Result PairCertificate TextError
lines_say g end [] = Err (At end Syntax)
lines_say g end (line ∷ others) =
    and_then (header_at pair_word g.own line) (λ own. and_then (body_in end None others) (λ form. Ok (record { own = own; form = form })))

-- what a text says
unfoldable pub pair_in : Rows → List ℕ → Result PairCertificate TextError
pair_in g bytes = lines_say g (length (lines bytes) + 1) (told_lines bytes)
