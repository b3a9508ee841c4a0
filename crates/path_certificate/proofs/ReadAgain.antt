-- The text of a certificate is read again as that certificate.
use Rattle.std.proofs.Common.{◌≡◌, ◌≢◌, ℕ, suc, ◌+◌, ◌<◌, ◌≤◌, List, [], ◌∷◌, ◌++◌, length, map, get_or, true, Ok, None, Some, refl, sym, ap, ◌∙◌, append_assoc, append-nil, arith}
use Rattle.std.specs.Prelude.{All, AllPairs, Contains}
use Rattle.std.specs.declared.option.Option.{Option}
use Rattle.std.specs.List.{AllByRecursion}
use Rattle.std.specs.Str.Lines.{lines}
use Rattle.std.proofs.lemmas.Bool.{le-leb, eq-eqb}
use Rattle.std.proofs.lemmas.List.Elements.{recursion_from_All}
use Rattle.dom_base.specs.AddrOrder.{rank}
use Rattle.dom_base.specs.declared.addr.Addr.{Addr}
use Rattle.dom_base.specs.declared.names.As.{As}
use Rattle.dom_base.specs.declared.query.Label.{Label}
use Rattle.line_text.specs.Spelling.{joined, line_text, text_of, IsLine, numbered_after}
use Rattle.line_text.proofs.Again.{line_again, lines_again}
use Rattle.te_links.specs.Rows.{Rows}
use Rattle.path_certificate.specs.declared.certificate.Certificate.{Certificate}
use Rattle.path_certificate.specs.declared.text_row.TextRow.{TextRow}
use Rattle.path_certificate.specs.declared.text_row.TextRow.TheVariants as rows
use Rattle.path_certificate.specs.Rows.{AreLabelRows}
use Rattle.path_certificate.specs.RowText.{row_in}
use Rattle.path_certificate.specs.Text.{certificate_word, header_at, row_at, body_in, Body, LabelLine, is_node, first_stranger, certificate_in}
use Rattle.path_certificate.specs.CertificateText.{header_words, row_words, label_words, certificate_text, rows_text, IsPathWritten, IsWritten, IsWrittenHeader}
use Rattle.path_certificate.proofs.Gathering.{Labels}
use Rattle.path_certificate.proofs.Strangers.{contains_is_node}
use Rattle.path_certificate.proofs.RowSpelling.{path_line, path_again}
use Rattle.path_certificate.proofs.Whole.{text_is}

abbrev AllRead : Labels → Type 0
AllRead labels = AllByRecursion (λ row. IsWritten (rows.Label row.0 row.1)) labels

-- rows that rise from an address on, each at a node
abbrev AreGood : List Addr → ℕ → Labels → Type 0
AreGood nodes least [] = Unit {0}
AreGood nodes least (row ∷ others) = (least ≤ rank row.0) × (is_node nodes row.0 ≡ true) × AreGood nodes (rank row.0 + 1) others

good_rows : (nodes : List Addr) (least : ℕ) (labels : Labels) → ((d : Addr × Option Label) → 0 < length labels → least ≤ rank (get_or labels 0 d).0) →
    AllPairs (λ a b. rank a.0 < rank b.0) labels → All (λ row. Contains nodes row.0) labels → AreGood nodes least labels
good_rows nodes least [] above up at = tt
good_rows nodes least (row ∷ others) above up at = (
  above row (omega arith),
  contains_is_node nodes row.0 (at 0 row (omega arith)),
  good_rows nodes (rank row.0 + 1) others
      (λ d some. let less = up 0 1 d (omega arith) (omega arith) in omega (arith, less))
      (λ i j d before below. up (suc i) (suc j) d (omega arith) (omega arith))
      (λ k d below. at (suc k) d (omega arith)),
)

-- the lines of the labels, with their numbers
abbrev numbered : ℕ → Labels → List LabelLine
numbered k [] = []
numbered k (row ∷ others) = (k + 1, row) ∷ numbered (k + 1) others

numbered_labels : (k : ℕ) (labels : Labels) → map (λ row. row.1) (numbered k labels) ≡ labels
numbered_labels k [] = refl
numbered_labels k (row ∷ others) = ap (λ (xs : Labels). row ∷ xs) (numbered_labels (k + 1) others)

no_stranger : (nodes : List Addr) (least k : ℕ) (labels : Labels) → AreGood nodes least labels → first_stranger nodes (numbered k labels) ≡ None
no_stranger nodes least k [] good = refl
no_stranger nodes least k (row ∷ others) good = rw good.1 (no_stranger nodes (rank row.0 + 1) (k + 1) others good.2)

row_again : (number : ℕ) (row : TextRow) → IsLine (row_words row) → row_in (row_words row) ≡ Some row → row_at (record { number = number; text = joined (row_words row) }) ≡ Ok row
unfolding row_at
row_again number row line again = rw (line_again (row_words row) line, again) refl

body_again : (nodes : List Addr) (end least k : ℕ) (labels : Labels) (path : Option (List Addr)) → AllRead labels → AreGood nodes least labels →
    row_in (row_words (rows.Path path)) ≡ Some (rows.Path path) →
    body_in end least (numbered_after k (map label_words labels ++ row_words (rows.Path path) ∷ [])) ≡ Ok (record { labels = numbered k labels; path = path })
unfolding body_in
body_again nodes end least k [] path written good again = rw (row_again (k + 1) (rows.Path path) (path_line path) again) refl
body_again nodes end least k (row ∷ others) path written good again =
    rw (
      row_again (k + 1) (rows.Label row.0 row.1) written.0.line written.0.again,
      le-leb least (rank row.0) good.0,
      body_again nodes end (rank row.0 + 1) (k + 1) others path written.1 good.2 again,
    ) refl

header_again : (own number : As) (line : ℕ) → own ≡ number → IsWrittenHeader number → header_at certificate_word own (record { number = line; text = joined (header_words number) }) ≡ Ok own
unfolding header_at
header_again own number line same w =
    rw (line_again (header_words number) w.line, w.again, eq-eqb number.0 own.0 (ap (λ (a : As). a.0) (sym same))) refl

lines_are : (labels : Labels) (path : Option (List Addr)) → AllRead labels → AllByRecursion IsLine (map label_words labels ++ row_words (rows.Path path) ∷ [])
lines_are [] path written = (path_line path, tt)
lines_are (row ∷ others) path written = (written.0.line, lines_are others path written.1)

pub read_again : (c : Certificate) (g : Rows) → IsWrittenHeader c.own → All (λ row. IsWritten (rows.Label row.0 row.1)) c.labels → IsPathWritten c.path →
    g.own ≡ c.own → AreLabelRows g.nodes c.labels → c.path ≢ Some [] → certificate_in g (certificate_text c) ≡ Ok c
read_again c g header labels path own are some =
    let written : AllRead c.labels = recursion_from_All (λ (row : Addr × Option Label). IsWritten (rows.Label row.0 row.1)) c.labels labels in
    let good : AreGood g.nodes 0 c.labels = good_rows g.nodes 0 c.labels (λ d some. omega arith) are.rising are.at_nodes in
    let words = map label_words c.labels ++ row_words (rows.Path c.path) ∷ [] in
    let count = length (lines (certificate_text c)) in
    let body : Body = record { labels = numbered 1 c.labels; path = c.path } in
    text_is g (certificate_text c) count (numbered_after 0 (header_words c.own ∷ words)) (lines_again 0 (header_words c.own ∷ words) (header.line, lines_are c.labels c.path written)) refl
    ∙ rw (header_again g.own c.own 1 own header, body_again g.nodes (count + 1) 0 1 c.labels c.path written good (path_again c.path path some), no_stranger g.nodes 0 1 c.labels good)
    (ap (λ (o : As). Ok (make o (map (λ row. row.1) (numbered 1 c.labels)))) own ∙ ap (λ (xs : Labels). Ok (make c.own xs)) (numbered_labels 1 c.labels))
  where
    make : As → Labels → Certificate
    make o xs = record { own = o; labels = xs; path = c.path }

-- the text, put together
rows_joined : (labels : Labels) (last : List (List ℕ)) → text_of (map label_words labels ++ last ∷ []) ≡ rows_text labels ++ line_text last
rows_joined [] last = append-nil (line_text last)
rows_joined (row ∷ others) last =
    ap (λ (rest : List ℕ). line_text (label_words row) ++ rest) (rows_joined others last) ∙ sym (append_assoc (line_text (label_words row)) (rows_text others) (line_text last))

pub text_joined : (c : Certificate) → (([] ++ line_text (header_words c.own)) ++ rows_text c.labels) ++ line_text (row_words (rows.Path c.path)) ≡ certificate_text c
text_joined c =
    append_assoc (line_text (header_words c.own)) (rows_text c.labels) (line_text (row_words (rows.Path c.path)))
    ∙ ap (λ (rest : List ℕ). line_text (header_words c.own) ++ rest) (sym (rows_joined c.labels (row_words (rows.Path c.path))))
