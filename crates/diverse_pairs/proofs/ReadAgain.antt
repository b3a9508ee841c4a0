-- The text of a certificate is read again as that certificate.
use Rattle.std.proofs.Common.{◌≡◌, ℕ, ◌+◌, List, [], ◌∷◌, ◌++◌, length, map, Ok, None, Some, refl, sym, ap, ◌∙◌, append_assoc, append-nil, arith}
use Rattle.std.specs.Prelude.{All}
use Rattle.std.specs.declared.option.Option.{Option}
use Rattle.std.specs.List.{AllByRecursion, flat_map}
use Rattle.std.specs.Str.Lines.{lines}
use Rattle.std.proofs.lemmas.Bool.{le-leb, eq-eqb}
use Rattle.std.proofs.lemmas.List.Elements.{recursion_from_All}
use Rattle.dom_base.specs.AddrOrder.{rank}
use Rattle.dom_base.specs.declared.addr.Addr.{Addr}
use Rattle.dom_base.specs.declared.names.As.{As}
use Rattle.line_text.specs.Spelling.{joined, line_text, text_of, IsLine, numbered_after}
use Rattle.line_text.proofs.Again.{line_again, lines_again}
use Rattle.te_links.specs.Rows.{Rows}
use Rattle.path_certificate.specs.Text.{header_at, least_behind}
use Rattle.diverse_pairs.specs.declared.certificate.PairCertificate.{PairCertificate}
use Rattle.diverse_pairs.specs.declared.certificate.PairForm.{PairForm}
use Rattle.diverse_pairs.specs.declared.certificate.PairForm.TheVariants.{Paths, Cut}
use Rattle.diverse_pairs.specs.declared.pair_row.PairRow.{PairRow}
use Rattle.diverse_pairs.specs.declared.pair_row.PairRow.TheVariants as rows
use Rattle.diverse_pairs.specs.RowText.{row_in}
use Rattle.diverse_pairs.specs.Text.{pair_word, row_at, body_in, pair_in}
use Rattle.diverse_pairs.specs.PairText.{header_words, row_words, potential_words, form_lines, pair_text, CanBeTold, IsFormWritten, IsWritten, IsWrittenHeader}
use Rattle.diverse_pairs.proofs.Ascending.{RisingFrom, pairs_rise}
use Rattle.diverse_pairs.proofs.Gathering.{Potentials}
use Rattle.diverse_pairs.proofs.RowSpelling.{first_line, second_line, cut_line, first_again, second_again, cut_again}
use Rattle.diverse_pairs.proofs.Whole.{text_is}

abbrev AllRead : Potentials → Type 0
AllRead potentials = AllByRecursion (λ row. IsWritten (rows.At row.0 row.1)) potentials

row_again : (number : ℕ) (row : PairRow) → IsLine (row_words row) → row_in (row_words row) ≡ Some row → row_at (record { number = number; text = joined (row_words row) }) ≡ Ok row
unfolding row_at
row_again number row line again = rw (line_again (row_words row) line, again) refl

header_again : (own number : As) (line : ℕ) → own ≡ number → IsWrittenHeader number → header_at pair_word own (record { number = line; text = joined (header_words number) }) ≡ Ok own
unfolding header_at
header_again own number line same w =
    rw (line_again (header_words number) w.line, w.again, eq-eqb number.0 own.0 (ap (λ (a : As). a.0) (sym same))) refl

paths_again : (end k : ℕ) (before : Option Addr) (potentials : Potentials) (one other : List Addr) → AllRead potentials → RisingFrom (λ row. rank row.0) (least_behind before) potentials →
    row_in (row_words (rows.First one)) ≡ Some (rows.First one) → row_in (row_words (rows.Second other)) ≡ Some (rows.Second other) →
    body_in end before (numbered_after k (form_lines (Paths potentials one other))) ≡ Ok (Paths potentials one other)
unfolding body_in
paths_again end k before [] one other written up first second =
    rw (row_again (k + 1) (rows.First one) (first_line one) first, row_again (k + 1 + 1) (rows.Second other) (second_line other) second) refl
paths_again end k before (row ∷ others) one other written up first second =
    rw (
      row_again (k + 1) (rows.At row.0 row.1) written.0.line written.0.again,
      le-leb (least_behind before) (rank row.0) up.0,
      paths_again end (k + 1) (Some row.0) others one other written.1 up.1 first second,
    ) refl

alone_again : (end k : ℕ) (nodes : List Addr) → row_in (row_words (rows.Cut nodes)) ≡ Some (rows.Cut nodes) → body_in end None (numbered_after k (form_lines (Cut nodes))) ≡ Ok (Cut nodes)
unfolding body_in
alone_again end k nodes again = rw (row_again (k + 1) (rows.Cut nodes) (cut_line nodes) again) refl

all_read : (potentials : Potentials) → All (λ row. IsWritten (rows.At row.0 row.1)) potentials → AllRead potentials
all_read potentials each = recursion_from_All (λ (row : Addr × ℕ). IsWritten (rows.At row.0 row.1)) potentials each

form_again : (end k : ℕ) (form : PairForm) → IsFormWritten form → CanBeTold form → body_in end None (numbered_after k (form_lines form)) ≡ Ok form
form_again end k (Paths potentials one other) written told =
    paths_again end k None potentials one other (all_read potentials written.0)
    (pairs_rise (λ (row : Addr × ℕ). rank row.0) 0 potentials (λ d some. omega arith) told.0)
    (first_again one written.1 told.1) (second_again other written.2 told.2)
form_again end k (Cut nodes) written told = alone_again end k nodes (cut_again nodes written (pairs_rise rank 0 nodes (λ d some. omega arith) told))

paths_are_lines : (potentials : Potentials) (one other : List Addr) → AllRead potentials → AllByRecursion IsLine (form_lines (Paths potentials one other))
paths_are_lines [] one other written = (first_line one, (second_line other, tt))
paths_are_lines (row ∷ others) one other written = (written.0.line, paths_are_lines others one other written.1)

lines_are : (form : PairForm) → IsFormWritten form → AllByRecursion IsLine (form_lines form)
lines_are (Paths potentials one other) written = paths_are_lines potentials one other (all_read potentials written.0)
lines_are (Cut nodes) written = (cut_line nodes, tt)

pub read_again : (c : PairCertificate) (g : Rows) → IsWrittenHeader c.own → IsFormWritten c.form → g.own ≡ c.own → CanBeTold c.form → pair_in g (pair_text c) ≡ Ok c
read_again c g header written own told =
    let count = length (lines (pair_text c)) in
    text_is g (pair_text c) count (numbered_after 0 (header_words c.own ∷ form_lines c.form)) (lines_again 0 (header_words c.own ∷ form_lines c.form) (header.line, lines_are c.form written)) refl
    ∙ rw (header_again g.own c.own 1 own header, form_again (count + 1) 1 c.form written told) (ap (λ (o : As). Ok (make o)) own)
  where
    make : As → PairCertificate
    make o = record { own = o; form = c.form }

-- ---- the text, put together

pub rows_joined : (potentials : Potentials) (others : List (List (List ℕ))) →
    text_of (map potential_words potentials ++ others) ≡ flat_map (λ row. line_text (potential_words row)) potentials ++ text_of others
rows_joined [] others = refl
rows_joined (row ∷ rest) others =
    ap (λ (text : List ℕ). line_text (potential_words row) ++ text) (rows_joined rest others)
    ∙ sym (append_assoc (line_text (potential_words row)) (flat_map (λ r. line_text (potential_words r)) rest) (text_of others))

pub paths_joined : (old : List ℕ) (potentials : Potentials) (one other : List Addr) →
    ((old ++ flat_map (λ row. line_text (potential_words row)) potentials) ++ line_text (row_words (rows.First one))) ++ line_text (row_words (rows.Second other))
    ≡ old ++ text_of (form_lines (Paths potentials one other))
paths_joined old potentials one other =
    let p = flat_map (λ (row : Addr × ℕ). line_text (potential_words row)) potentials in
    let f = line_text (row_words (rows.First one)) in
    let s = line_text (row_words (rows.Second other)) in
    regroup old p f s ∙ ap (λ (text : List ℕ). old ++ text) (sym (rows_joined potentials (row_words (rows.First one) ∷ row_words (rows.Second other) ∷ [])))
  where
    regroup : (a b c d : List ℕ) → ((a ++ b) ++ c) ++ d ≡ a ++ (b ++ (c ++ (d ++ [])))
    regroup a b c d = simp (append_assoc, append-nil)
