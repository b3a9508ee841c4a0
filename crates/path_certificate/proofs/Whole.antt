-- A whole text, from what its parts say.
use Rattle.std.proofs.Common.{◌≡◌, inl, inr, ℕ, zero, suc, ◌+◌, ◌<◌, ◌≤◌, List, [], ◌∷◌, length, map, get_or, Option, Some, None, Result, Ok, Err, refl, sym, ap, subst, ◌∙◌, arith}
use Rattle.std.specs.Prelude.{All, AllPairs, Contains}
use Rattle.std.specs.Str.Lines.{lines}
use Rattle.std.proofs.lemmas.Bool.{cases_Bool}
use Rattle.std.proofs.lemmas.Bool.Decides.{leb_tells}
use Rattle.std.proofs.lemmas.List.Elements.{All-cons, All-nil}
use Rattle.dom_base.specs.AddrOrder.{rank}
use Rattle.dom_base.specs.declared.addr.Addr.{Addr}
use Rattle.dom_base.specs.declared.names.As.{As}
use Rattle.dom_base.specs.declared.query.Label.{Label}
use Rattle.line_text.specs.Lines.{NumberedLine, told_lines}
use Rattle.te_links.specs.Rows.{Rows}
use Rattle.te_links.specs.declared.fault.TopoFault.TheVariants.{Syntax}
use Rattle.path_certificate.specs.declared.certificate.Certificate.{Certificate}
use Rattle.path_certificate.specs.declared.text_row.TextRow.{TextRow}
use Rattle.path_certificate.specs.declared.text_row.TextRow.TheVariants as rows
use Rattle.path_certificate.specs.declared.reading.Gathered.{Gathered}
use Rattle.te_text.specs.declared.error.TextError.{TextError}
use Rattle.te_text.specs.declared.error.TextError.TheVariants.{At, NoMemory}
use Rattle.te_text.specs.Given.{GivesText}
use Rattle.path_certificate.specs.Rows.{AreLabelRows}
use Rattle.te_text.specs.Reading.{and_then}
use Rattle.path_certificate.specs.Text.{certificate_word, header_at, row_at, body_in, line_says, path_last, with_label, Body, LabelLine, is_node, first_stranger, gathered, unless_stranger, lines_say, certificate_in}
use Rattle.path_certificate.proofs.Gathering.{Labels}
use Rattle.path_certificate.proofs.Strangers.{is_node_contains}

-- the lines of the text, and how many it has
pub text_is : (g : Rows) (bytes : List ℕ) (count : ℕ) (told : List NumberedLine) → told_lines bytes ≡ told → count ≡ length (lines bytes) →
    certificate_in g bytes ≡ lines_say g (count + 1) told
unfolding certificate_in
text_is g bytes count told told_are counted = ap (λ n. lines_say g (n + 1) (told_lines bytes)) (sym counted) ∙ ap (lines_say g (count + 1)) told_are

-- a header that is refused
pub header_stays : (g : Rows) (end : ℕ) (line : NumberedLine) (others : List NumberedLine) (e : TextError) (all : Result Certificate TextError) →
    all ≡ lines_say g end (line ∷ others) → Err e ≡ header_at certificate_word g.own line → GivesText {X = Certificate} (Err e) all
header_stays g end line others (At number fault) all is at = is ∙ rw (sym at) refl
header_stays g end line others NoMemory all is at = tt

-- behind a good header
behind : (g : Rows) (end : ℕ) (line : NumberedLine) (others : List NumberedLine) (own : As) → Ok own ≡ header_at certificate_word g.own line →
    lines_say g end (line ∷ others) ≡ and_then (body_in end 0 others) (λ body. unless_stranger own (gathered g.nodes body) (first_stranger g.nodes body.labels))
behind g end line others own at = rw (sym at) refl

refused : (g : Rows) (own : As) (said : Result Body TextError) (e : TextError) → and_then said (λ body. Ok (gathered g.nodes body)) ≡ Err e →
    and_then said (λ body. unless_stranger own (gathered g.nodes body) (first_stranger g.nodes body.labels)) ≡ Err e
refused g own (Ok body) e is = absurd (cc)
refused g own (Err f) e is = let same : f ≡ e = cc in ap (λ (x : TextError). Err x) same

-- lines that are refused
pub body_stays : (g : Rows) (end : ℕ) (line : NumberedLine) (others : List NumberedLine) (own : As) (e : TextError) (all : Result Certificate TextError) →
    all ≡ lines_say g end (line ∷ others) → Ok own ≡ header_at certificate_word g.own line → GivesText {X = Gathered} (Err e) (and_then (body_in end 0 others) (λ body. Ok (gathered g.nodes body))) →
    GivesText {X = Certificate} (Err e) all
body_stays g end line others own (At number fault) all is at said = is ∙ behind g end line others own at ∙ refused g own (body_in end 0 others) (At number fault) said
body_stays g end line others own NoMemory all is at said = tt

accepted : (g : Rows) (own : As) (said : Result Body TextError) (x : Gathered) → and_then said (λ body. Ok (gathered g.nodes body)) ≡ Ok x →
    and_then said (λ body. unless_stranger own (gathered g.nodes body) (first_stranger g.nodes body.labels)) ≡ unless_stranger own x x.stranger
accepted g own (Err f) x is = absurd (cc)
accepted g own (Ok body) x is =
    let same : gathered g.nodes body ≡ x = cc in
    ap (λ (y : Gathered). unless_stranger own y y.stranger) same

pub body_accepted : (g : Rows) (end : ℕ) (line : NumberedLine) (others : List NumberedLine) (own : As) (x : Gathered) (all : Result Certificate TextError) →
    all ≡ lines_say g end (line ∷ others) → Ok own ≡ header_at certificate_word g.own line → and_then (body_in end 0 others) (λ body. Ok (gathered g.nodes body)) ≡ Ok x →
    all ≡ unless_stranger own x x.stranger
body_accepted g end line others own x all is at said = is ∙ behind g end line others own at ∙ accepted g own (body_in end 0 others) x said

-- ---- the rows of a certificate that was read

abbrev RisingFrom : ℕ → Labels → Type 0
RisingFrom least [] = Unit {0}
RisingFrom least (row ∷ others) = (least ≤ rank row.0) × RisingFrom (rank row.0 + 1) others

abbrev labels_of : Body → Labels
labels_of body = map (λ row. row.1) body.labels

path_rises : (least : ℕ) (path : Option (List Addr)) (others : List NumberedLine) (body : Body) → path_last path others ≡ Ok body → RisingFrom least (labels_of body)
path_rises least path [] body is =
    let nothing : Body = record { labels = []; path = path } in
    let same : nothing ≡ body = cc in
    subst (λ (b : Body). RisingFrom least (labels_of b)) same tt
path_rises least path (line ∷ others) body is = absurd (cc)

label_rises : (least number : ℕ) (addr : Addr) (label : Option Label) (said : Result Body TextError) (body : Body) → least ≤ rank addr →
    ((b : Body) → said ≡ Ok b → RisingFrom (rank addr + 1) (labels_of b)) →
    and_then said (λ b. Ok (with_label (number, (addr, label)) b)) ≡ Ok body → RisingFrom least (labels_of body)
label_rises least number addr label (Err e) body above rest is = absurd (cc)
label_rises least number addr label (Ok b) body above rest is =
    let same : with_label (number, (addr, label)) b ≡ body = cc in
    subst (λ (x : Body). RisingFrom least (labels_of x)) same (above, rest b refl)

body_rises : (end least : ℕ) (told : List NumberedLine) (body : Body) → body_in end least told ≡ Ok body → RisingFrom least (labels_of body)
unfolding body_in
body_rises end least [] body is = absurd (cc)
body_rises end least (line ∷ others) body is = go (row_at line) (λ next b. body_rises end next others b) is
  where
    go : (r : Result TextRow TextError) → ((next : ℕ) (b : Body) → body_in end next others ≡ Ok b → RisingFrom next (labels_of b)) →
        and_then r (line_says line.number least others (λ next. body_in end next others)) ≡ Ok body → RisingFrom least (labels_of body)
    go (Err e) rest h = absurd (cc)
    go (Ok (rows.Path path)) rest h = path_rises least path others body h
    go (Ok (rows.Label addr label)) rest h =
        elim (leb_tells least (rank addr)) [
          | inl t ↦ label_rises least line.number addr label (body_in end (rank addr + 1) others) body t.1 (rest (rank addr + 1)) (rw t.0 at h)
          | inr f ↦ let bad : Err (At line.number Syntax) ≡ Ok body = rw f.0 at h in absurd (cc)
        ]

rising_above : (least : ℕ) (labels : Labels) → RisingFrom least labels → (j : ℕ) (d : Addr × Option Label) → j < length labels → least ≤ rank (get_or labels j d).0
rising_above least [] up j d below = absurd (omega arith)
rising_above least (row ∷ others) up zero d below = up.0
rising_above least (row ∷ others) up (suc j) d below = omega (arith, up.0, rising_above (rank row.0 + 1) others up.1 j d (omega arith))

rising_pairs : (least : ℕ) (labels : Labels) → RisingFrom least labels → AllPairs (λ a b. rank a.0 < rank b.0) labels
rising_pairs least [] up i j d before below = absurd (omega arith)
rising_pairs least (row ∷ others) up zero zero d before below = absurd (omega arith)
rising_pairs least (row ∷ others) up zero (suc j) d before below = omega (arith, rising_above (rank row.0 + 1) others up.1 j d (omega arith))
rising_pairs least (row ∷ others) up (suc i) zero d before below = absurd (omega arith)
rising_pairs least (row ∷ others) up (suc i) (suc j) d before below = rising_pairs (rank row.0 + 1) others up.1 i j d (omega arith) (omega arith)

all_nodes : (nodes : List Addr) (labels : List LabelLine) → first_stranger nodes labels ≡ None → All (λ row. Contains nodes row.0) (map (λ row. row.1) labels)
all_nodes nodes [] none = All-nil (λ (row : Addr × Option Label). Contains nodes row.0)
all_nodes nodes (row ∷ others) none =
    elim (cases_Bool (is_node nodes row.1.0)) [
      | inl t ↦ All-cons (λ (r : Addr × Option Label). Contains nodes r.0) row.1 (map (λ r. r.1) others) (is_node_contains nodes row.1.0 t) (all_nodes nodes others (rw t at none))
      | inr f ↦ let bad : Some row.0 ≡ None = rw f at none in absurd (cc)
    ]

pub rows_read : (nodes : List Addr) (end : ℕ) (others : List NumberedLine) (x : Gathered) → and_then (body_in end 0 others) (λ body. Ok (gathered nodes body)) ≡ Ok x →
    x.stranger ≡ None → AreLabelRows nodes x.labels
rows_read nodes end others x said none = go (body_in end 0 others) (λ b is. body_rises end 0 others b is) said
  where
    go : (r : Result Body TextError) → ((b : Body) → r ≡ Ok b → RisingFrom 0 (labels_of b)) → and_then r (λ body. Ok (gathered nodes body)) ≡ Ok x → AreLabelRows nodes x.labels
    go (Err e) up is = absurd (cc)
    go (Ok b) up is =
        let same : gathered nodes b ≡ x = cc in
        let rows_are : AreLabelRows nodes (labels_of b) = record {
          rising = rising_pairs 0 (labels_of b) (up b refl);
          at_nodes = all_nodes nodes b.labels (ap (λ (y : Gathered). y.stranger) same ∙ none);
        } in
        subst (λ (y : Gathered). AreLabelRows nodes y.labels) same rows_are
