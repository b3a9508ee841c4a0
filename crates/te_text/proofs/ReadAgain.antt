-- The text of a topology is read again as that topology, and as no other.
use Rattle.std.proofs.Common.{◌≡◌, ℕ, ◌+◌, List, [], ◌∷◌, ◌++◌, map, true, cond, Result, Ok, Err, Some, refl, sym, ap, subst, ◌∙◌}
use Rattle.std.specs.List.{All, AllByRecursion}
use Rattle.std.proofs.lemmas.List.Elements.{recursion_from_All}
use Rattle.std.proofs.lemmas.List.Sorted.{IsPermutation-refl}
use Rattle.dom_base.specs.declared.names.As.{As}
use Rattle.line_text.specs.Spelling.{joined, IsLine, numbered_after}
use Rattle.line_text.proofs.Again.{words_again, line_again, lines_again}
use Rattle.te_links.specs.declared.rows.Parts.{Parts}
use Rattle.te_links.specs.Rows.{Rows, IsTopology, IsInOrder}
use Rattle.te_links.specs.Faults.{rows_of_parts}
use Rattle.te_links.specs.Built.{IsBuilt}
use Rattle.te_text.specs.declared.row.TextRow.{TextRow}
use Rattle.te_text.specs.declared.row.TextRow.TheVariants as rows
use Rattle.te_text.specs.declared.reading.Reading.{Reading}
use Rattle.te_text.specs.declared.error.TextError.{TextError}
use Rattle.line_text.specs.Words.{all_words, words_of}
use Rattle.dom_base.specs.Steps.{◌>>=◌}
use Rattle.te_links.specs.declared.fault.TopoFault.TheVariants.{NoHeader}
use Rattle.te_text.specs.declared.error.TextError.TheVariants.{At}
use Rattle.te_text.specs.Reading.{or_syntax, begins_topology, header_own, header_at, row_at, rows_in, reading_of, reading_in, text_in}
use Rattle.te_text.specs.TopologyText.{row_words, header_words, rows_in_order, topology_text, IsWritten, IsWrittenHeader}
use Rattle.te_text.specs.Reads.{Reads}
use Rattle.te_text.proofs.OneOrder.{one_topology}

-- ---- lines of rows

row_again : (n : ℕ) (row : TextRow) → IsWritten row → row_at (record { number = n; text = joined (row_words row) }) ≡ Ok row
unfolding row_at
row_again n row w = rw (line_again (row_words row) w.line, w.again) refl

header_if : (n : ℕ) (text : List ℕ) (words : List (List ℕ)) (own : As) → all_words text ≡ words → words_of text ≡ Some words → begins_topology words ≡ true → header_own words ≡ Some own
    → header_at (record { number = n; text = text }) ≡ Ok own
unfolding header_at
header_if n text words own all clean begins says =
    ap (λ b. cond b (or_syntax n (words_of text >>= header_own)) (Err (At n NoHeader))) (ap begins_topology all ∙ begins)
    ∙ ap (λ o. or_syntax n (o >>= header_own)) clean ∙ ap (or_syntax n) says

header_again : (n : ℕ) (own : As) → IsWrittenHeader own → header_at (record { number = n; text = joined (header_words own) }) ≡ Ok own
header_again n own w =
    header_if n (joined (header_words own)) (header_words own) own (words_again (header_words own) w.line.some w.line.each) (line_again (header_words own) w.line) refl w.again

-- rows that follow some lines, each with its line
unfoldable pub placed_after : ℕ → List TextRow → List (ℕ × TextRow)
placed_after before [] = []
placed_after before (row ∷ others) = (before + 1, row) ∷ placed_after (before + 1) others

rows_again : (before : ℕ) (all : List TextRow) → AllByRecursion IsWritten all → rows_in (numbered_after before (map row_words all)) ≡ Ok (placed_after before all)
unfolding rows_in placed_after
rows_again before [] h = refl
rows_again before (row ∷ all) h = rw (row_again (before + 1) row h.0, rows_again (before + 1) all h.1) refl

lines_of_rows : (all : List TextRow) → AllByRecursion IsWritten all → AllByRecursion IsLine (map row_words all)
lines_of_rows [] h = tt
lines_of_rows (row ∷ all) h = (h.0.line, lines_of_rows all h.1)

-- ---- rows by their kinds

entries_only : (own : As) (before : ℕ) (es : _) → (reading_of own (placed_after before (map rows.Entry es))).parts ≡ record { own = own; nodes = []; links = []; outs = []; entries = es }
unfolding placed_after
entries_only own before [] = refl
entries_only own before (e ∷ es) = ap (λ (p : Parts). record p { entries = e ∷ p.entries }) (entries_only own (before + 1) es)

outs_first : (own : As) (before : ℕ) (os es : _) → (reading_of own (placed_after before (map rows.Out os ++ map rows.Entry es))).parts ≡ record { own = own; nodes = []; links = []; outs = os; entries = es }
unfolding placed_after
outs_first own before [] es = entries_only own before es
outs_first own before (o ∷ os) es = ap (λ (p : Parts). record p { outs = o ∷ p.outs }) (outs_first own (before + 1) os es)

links_first : (own : As) (before : ℕ) (ls os es : _) → (reading_of own (placed_after before (map rows.Link ls ++ (map rows.Out os ++ map rows.Entry es)))).parts ≡ record { own = own; nodes = []; links = ls; outs = os; entries = es }
unfolding placed_after
links_first own before [] os es = outs_first own before os es
links_first own before (l ∷ ls) os es = ap (λ (p : Parts). record p { links = l ∷ p.links }) (links_first own (before + 1) ls os es)

nodes_first : (own : As) (before : ℕ) (ns ls os es : _) → (reading_of own (placed_after before (map rows.Node ns ++ (map rows.Link ls ++ (map rows.Out os ++ map rows.Entry es))))).parts ≡ record { own = own; nodes = ns; links = ls; outs = os; entries = es }
unfolding placed_after
nodes_first own before [] ls os es = links_first own before ls os es
nodes_first own before (n ∷ ns) ls os es = ap (λ (p : Parts). record p { nodes = n ∷ p.nodes }) (nodes_first own (before + 1) ns ls os es)

-- ---- the whole

append_written : (xs ys : List TextRow) → AllByRecursion IsWritten xs → AllByRecursion IsWritten ys → AllByRecursion IsWritten (xs ++ ys)
append_written [] ys h k = k
append_written (x ∷ xs) ys h k = (h.0, append_written xs ys h.1 k)

map_written : {X : Type 0} (make : X → TextRow) (xs : List X) → AllByRecursion (λ x. IsWritten (make x)) xs → AllByRecursion IsWritten (map make xs)
map_written make [] h = tt
map_written make (x ∷ xs) h = (h.0, map_written make xs h.1)

from_all : {X : Type 0} (make : X → TextRow) (xs : List X) → All (λ x. IsWritten (make x)) xs → AllByRecursion IsWritten (map make xs)
from_all make xs h = map_written make xs (recursion_from_All (λ x. IsWritten (make x)) xs h)

-- what was written of a topology
pub record AllWritten (t : Rows) : Type 0 where
  pub header : IsWrittenHeader t.own
  pub nodes : All (λ n. IsWritten (rows.Node n)) t.nodes
  pub links : All (λ l. IsWritten (rows.Link l)) t.links
  pub outs : All (λ o. IsWritten (rows.Out o)) t.outs
  pub entries : All (λ e. IsWritten (rows.Entry e)) t.entries

all_rows : (t : Rows) → AllWritten t → AllByRecursion IsWritten (rows_in_order t)
all_rows t w =
    append_written (map rows.Node t.nodes) (map rows.Link t.links ++ (map rows.Out t.outs ++ map rows.Entry t.entries)) (from_all rows.Node t.nodes w.nodes)
    (append_written (map rows.Link t.links) (map rows.Out t.outs ++ map rows.Entry t.entries) (from_all rows.Link t.links w.links)
    (append_written (map rows.Out t.outs) (map rows.Entry t.entries) (from_all rows.Out t.outs w.outs) (from_all rows.Entry t.entries w.entries)))

lines_again_of : (own : As) (all : List TextRow) → IsWrittenHeader own → AllByRecursion IsWritten all
    → reading_in (numbered_after 0 (header_words own ∷ map row_words all)) ≡ Ok (reading_of own (placed_after 1 all))
unfolding reading_in
lines_again_of own all h w = rw (header_again 1 own h, rows_again 1 all w) refl

pub says_again : (t : Rows) → AllWritten t → text_in (topology_text t) ≡ Ok (reading_of t.own (placed_after 1 (rows_in_order t)))
says_again t w =
    ap reading_in (lines_again 0 (header_words t.own ∷ map row_words (rows_in_order t)) (w.header.line, lines_of_rows (rows_in_order t) (all_rows t w)))
    ∙ lines_again_of t.own (rows_in_order t) w.header (all_rows t w)

parts_again : (t : Rows) → (reading_of t.own (placed_after 1 (rows_in_order t))).parts ≡ record { own = t.own; nodes = t.nodes; links = t.links; outs = t.outs; entries = t.entries }
parts_again t = nodes_first t.own 1 t.nodes t.links t.outs t.entries

same_rows : (p : Parts) (t : Rows) → p ≡ record { own = t.own; nodes = t.nodes; links = t.links; outs = t.outs; entries = t.entries } → IsTopology t → IsBuilt (rows_of_parts p) t
same_rows p t e rules = subst (λ (q : Parts). IsBuilt (rows_of_parts q) t) (sym e) (record {
  rules = rules;
  own = refl;
  nodes = IsPermutation-refl t.nodes;
  links = IsPermutation-refl t.links;
  outs = IsPermutation-refl t.outs;
  entries = IsPermutation-refl t.entries;
})

pub reads_again : (t : Rows) → AllWritten t → IsTopology t → Reads (topology_text t) t
reads_again t w rules = record {
  reading = reading_of t.own (placed_after 1 (rows_in_order t));
  form = says_again t w;
  rows = same_rows (reading_of t.own (placed_after 1 (rows_in_order t))).parts t (parts_again t) rules;
}

abbrev said : Reading → Result Reading TextError
said r = Ok r

ok_is : (r s : Reading) → said r ≡ said s → r ≡ s
ok_is r s e = cc

pub reads_only : (t : Rows) → AllWritten t → IsTopology t → IsInOrder t → (u : Rows) → IsInOrder u → Reads (topology_text t) u → u ≡ t
reads_only t w rules order u in_order r =
    let mine : Reading = reading_of t.own (placed_after 1 (rows_in_order t)) in
    let same : mine ≡ r.reading = ok_is mine r.reading (sym (says_again t w) ∙ r.form) in
    let of_mine : IsBuilt (rows_of_parts mine.parts) t = same_rows mine.parts t (parts_again t) rules in
    let of_theirs : IsBuilt (rows_of_parts r.reading.parts) t = subst (λ (s : Reading). IsBuilt (rows_of_parts s.parts) t) same of_mine in
    one_topology (rows_of_parts r.reading.parts) t u of_theirs r.rows order in_order
