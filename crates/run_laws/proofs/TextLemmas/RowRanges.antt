-- The rows of a topology that a text gives are in range.
use Rattle.std.proofs.Common.{◌≡◌, ℕ, List, [], ◌∷◌, map, Option, Some, None, Result, Ok, Err, refl, subst}
use Rattle.std.specs.List.{AllByRecursion}
use Rattle.std.specs.List.Sorted.{IsPermutation}
use Rattle.std.proofs.lemmas.List.Elements.{All-append, All-from_recursion, All-map}
use Rattle.std.proofs.lemmas.List.Sorted.{All-permutation}
use Rattle.plant_laws.specs.plant_model.Types.{Addr, As, Entry, OutLink}
use Rattle.dom_base.specs.AddrText.{addr_in}
use Rattle.dom_base.specs.Steps.{◌>>=◌}
use Rattle.line_text.specs.Lines.{NumberedLine, told_lines}
use Rattle.line_text.specs.Words.{words_of}
use Rattle.pcep_subobjects.specs.Addresses.{IsAddr}
use Rattle.te_links.specs.declared.fault.RowKind.{RowKind}
use Rattle.te_links.specs.declared.fault.RowKind.TheVariants as kinds
use Rattle.te_links.specs.Faults.{rows_of_parts}
use Rattle.te_links.specs.Rows.{Rows}
use Rattle.te_text.specs.declared.error.TextError.{TextError}
use Rattle.te_text.specs.declared.fields.Ends.{Ends}
use Rattle.te_text.specs.declared.fields.Traits.{Traits}
use Rattle.te_text.specs.declared.reading.Reading.{Reading}
use Rattle.te_text.specs.declared.row.TextRow.{TextRow}
use Rattle.te_text.specs.declared.row.TextRow.TheVariants as rows
use Rattle.te_text.specs.Reading.{and_then, header_at, or_syntax, reading_in, reading_of, row_at, rows_in}
use Rattle.te_text.specs.Reads.{Reads}
use Rattle.te_text.specs.RowText.{as_in, ends_in, fields_in, first, kind_in, last, link_of, row_in, srlgs_in, traits_in}
use Rattle.plant_laws.specs.plant_model.Plant.{AreInRange, IsLinkInRange}
use Rattle.run_laws.proofs.TextLemmas.AddrRanges.{addr_in_range, by_parts}

-- ---- a row

-- the addresses of a row are numbers of their kinds
abbrev pub IsRowInRange : TextRow → Type 0
IsRowInRange (rows.Node n) = IsAddr n
IsRowInRange (rows.Link l) = IsLinkInRange l
IsRowInRange (rows.Out o) = IsLinkInRange o.link
IsRowInRange (rows.Entry e) = IsAddr e.node

record AreEnds (ends : Ends) : Type 0 where
  from : IsAddr ends.from
  to : IsAddr ends.to
  near : IsAddr ends.near
  far : IsAddr ends.far

abbrev FirstIs : Option (Addr × List (List ℕ)) → Type 0
FirstIs o = (x : Addr × List (List ℕ)) → o ≡ Some x → IsAddr x.0

first_addr : (words : List (List ℕ)) → FirstIs (first addr_in words)
first_addr [] x is = absurd (cc)
first_addr (word ∷ words) x is =
    let p = by_parts (addr_in word) (λ addr. Some (addr, words)) x is in
    let same : (p.0, words) ≡ x = cc (p.2) in
    subst (λ (y : Addr × List (List ℕ)). IsAddr y.0) same (addr_in_range word p.0 p.1)

ends_in_range : (words : List (List ℕ)) (x : Ends × List (List ℕ)) → ends_in words ≡ Some x → AreEnds x.0
unfolding ends_in
ends_in_range words x is =
    let from = by_parts (first addr_in words) _ x is in
    let to = by_parts (first addr_in from.0.1) _ x from.2 in
    let near = by_parts (first addr_in to.0.1) _ x to.2 in
    let far = by_parts (first addr_in near.0.1) _ x near.2 in
    let ends : Ends = record { from = from.0.0; to = to.0.0; near = near.0.0; far = far.0.0 } in
    let same : (ends, far.0.1) ≡ x = cc (far.2) in
    subst (λ (y : Ends × List (List ℕ)). AreEnds y.0) same (record {
      from = first_addr words from.0 from.1;
      to = first_addr from.0.1 to.0 to.1;
      near = first_addr to.0.1 near.0 near.1;
      far = first_addr near.0.1 far.0 far.1;
    })

link_in_range : (ends : Ends) (traits : Traits) (srlgs : List ℕ) → AreEnds ends → IsLinkInRange (link_of ends traits srlgs)
link_in_range ends traits srlgs are = record { from = are.from; to = are.to; near = are.near; far = are.far }

is_row : (made row : TextRow) → Some made ≡ Some row → IsRowInRange made → IsRowInRange row
is_row made row is h = let same : made ≡ row = cc in subst IsRowInRange same h

last_row : (made row : TextRow) (words : List (List ℕ)) → last made words ≡ Some row → IsRowInRange made → IsRowInRange row
last_row made row [] is h = is_row made row is h
last_row made row (word ∷ words) is h = absurd (cc)

fields_in_range : (kind : RowKind) (words : List (List ℕ)) (row : TextRow) → fields_in kind words ≡ Some row → IsRowInRange row
unfolding fields_in
fields_in_range kinds.Node words row is =
    let addr = by_parts (first addr_in words) _ row is in
    last_row (rows.Node addr.0.0) row addr.0.1 addr.2 (first_addr words addr.0 addr.1)
fields_in_range kinds.Link words row is =
    let ends = by_parts (ends_in words) _ row is in
    let traits = by_parts (traits_in ends.0.1) _ row ends.2 in
    let srlgs = by_parts (srlgs_in traits.0.1) _ row traits.2 in
    is_row (rows.Link (link_of ends.0.0 traits.0.0 srlgs.0)) row srlgs.2 (link_in_range ends.0.0 traits.0.0 srlgs.0 (ends_in_range words ends.0 ends.1))
fields_in_range kinds.Out words row is =
    let ends = by_parts (ends_in words) _ row is in
    let to_as = by_parts (first as_in ends.0.1) _ row ends.2 in
    let traits = by_parts (traits_in to_as.0.1) _ row to_as.2 in
    let srlgs = by_parts (srlgs_in traits.0.1) _ row traits.2 in
    is_row (rows.Out (record { link = link_of ends.0.0 traits.0.0 srlgs.0; to_as = to_as.0.0 })) row srlgs.2 (link_in_range ends.0.0 traits.0.0 srlgs.0 (ends_in_range words ends.0 ends.1))
fields_in_range kinds.Entry words row is =
    let node = by_parts (first addr_in words) _ row is in
    let from_as = by_parts (first as_in node.0.1) _ row node.2 in
    last_row (rows.Entry (record { node = node.0.0; from_as = from_as.0.0 })) row from_as.0.1 from_as.2 (first_addr words node.0 node.1)

pub row_in_range : (words : List (List ℕ)) (row : TextRow) → row_in words ≡ Some row → IsRowInRange row
unfolding row_in
row_in_range words row is =
    let kind = by_parts (first kind_in words) _ row is in
    fields_in_range kind.0.0 kind.0.1 row kind.2

-- ---- lines

-- what a line says was said by its words
pub said_by : {X : Type 0} (line : ℕ) (o : Option X) (x : X) → or_syntax line o ≡ Ok x → o ≡ Some x
said_by line None x is = absurd (cc)
said_by line (Some y) x is = let same : y ≡ x = cc in subst (λ z. Some y ≡ Some z) same refl

line_in_range : (line : NumberedLine) (row : TextRow) → row_at line ≡ Ok row → IsRowInRange row
unfolding row_at
line_in_range line row is =
    let words = by_parts (words_of line.text) row_in row (said_by line.number (words_of line.text >>= row_in) row is) in
    row_in_range words.0 row words.2

abbrev IsPlacedInRange : ℕ × TextRow → Type 0
IsPlacedInRange placed = IsRowInRange placed.1

rows_in_range : (lines : List NumberedLine) (placed : List (ℕ × TextRow)) → rows_in lines ≡ Ok placed → AllByRecursion IsPlacedInRange placed
unfolding rows_in
rows_in_range [] placed is = let same : [] ≡ placed = cc in subst (AllByRecursion IsPlacedInRange) same tt
rows_in_range (line ∷ lines) placed is =
    go (row_at line) (λ row e. line_in_range line row e) (rows_in lines) (λ others e. rows_in_range lines others e) is
  where
    go : (r : Result TextRow TextError) → ((row : TextRow) → r ≡ Ok row → IsRowInRange row) →
        (s : Result (List (ℕ × TextRow)) TextError) → ((others : List (ℕ × TextRow)) → s ≡ Ok others → AllByRecursion IsPlacedInRange others) →
        and_then r (λ row. and_then s (λ others. Ok ((line.number, row) ∷ others))) ≡ Ok placed → AllByRecursion IsPlacedInRange placed
    go (Err fault) one s rest e = absurd (cc)
    go (Ok row) one (Err fault) rest e = absurd (cc)
    go (Ok row) one (Ok others) rest e =
        let same : (line.number, row) ∷ others ≡ placed = cc in
        subst (AllByRecursion IsPlacedInRange) same (one row refl, rest others refl)

-- ---- rows by their kinds

pub record AreWithin (g : Rows) : Type 0 where
  pub nodes : AllByRecursion IsAddr g.nodes
  pub links : AllByRecursion IsLinkInRange g.links
  pub outs : AllByRecursion (λ (o : OutLink). IsLinkInRange o.link) g.outs
  pub entries : AllByRecursion (λ (e : Entry). IsAddr e.node) g.entries

gathered : (own : As) (placed : List (ℕ × TextRow)) → AllByRecursion IsPlacedInRange placed → AreWithin (rows_of_parts (reading_of own placed).parts)
gathered own [] h = record { nodes = tt; links = tt; outs = tt; entries = tt }
gathered own ((line, rows.Node n) ∷ placed) h =
    let w = gathered own placed h.1 in
    record { nodes = (h.0, w.nodes); links = w.links; outs = w.outs; entries = w.entries }
gathered own ((line, rows.Link l) ∷ placed) h =
    let w = gathered own placed h.1 in
    record { nodes = w.nodes; links = (h.0, w.links); outs = w.outs; entries = w.entries }
gathered own ((line, rows.Out o) ∷ placed) h =
    let w = gathered own placed h.1 in
    record { nodes = w.nodes; links = w.links; outs = (h.0, w.outs); entries = w.entries }
gathered own ((line, rows.Entry e) ∷ placed) h =
    let w = gathered own placed h.1 in
    record { nodes = w.nodes; links = w.links; outs = w.outs; entries = (h.0, w.entries) }

abbrev IsReadingInRange : Reading → Type 0
IsReadingInRange reading = AreWithin (rows_of_parts reading.parts)

reading_in_range : (lines : List NumberedLine) (reading : Reading) → reading_in lines ≡ Ok reading → IsReadingInRange reading
unfolding reading_in
reading_in_range [] reading is = absurd (cc)
reading_in_range (line ∷ lines) reading is = go (header_at line) (rows_in lines) (λ placed e. rows_in_range lines placed e) is
  where
    go : (r : Result As TextError) (s : Result (List (ℕ × TextRow)) TextError) → ((placed : List (ℕ × TextRow)) → s ≡ Ok placed → AllByRecursion IsPlacedInRange placed) →
        and_then r (λ own. and_then s (λ placed. Ok (reading_of own placed))) ≡ Ok reading → IsReadingInRange reading
    go (Err fault) s rest e = absurd (cc)
    go (Ok own) (Err fault) rest e = absurd (cc)
    go (Ok own) (Ok placed) rest e =
        let same : reading_of own placed ≡ reading = cc in
        subst IsReadingInRange same (gathered own placed (rest placed refl))

-- the same rows in another order
pub moved : (g t : Rows) → IsPermutation g.nodes t.nodes → IsPermutation g.links t.links → IsPermutation g.outs t.outs → IsPermutation g.entries t.entries → AreWithin g → AreInRange t
moved g t nodes links outs entries w = record {
  nodes = All-permutation IsAddr g.nodes t.nodes nodes (All-from_recursion IsAddr g.nodes w.nodes);
  links = All-append IsLinkInRange t.links (map (λ (o : OutLink). o.link) t.outs)
      (All-permutation IsLinkInRange g.links t.links links (All-from_recursion IsLinkInRange g.links w.links))
      (All-map IsLinkInRange (λ (o : OutLink). o.link) t.outs
      (All-permutation (λ (o : OutLink). IsLinkInRange o.link) g.outs t.outs outs (All-from_recursion (λ (o : OutLink). IsLinkInRange o.link) g.outs w.outs)));
  entries = All-permutation (λ (e : Entry). IsAddr e.node) g.entries t.entries entries (All-from_recursion (λ (e : Entry). IsAddr e.node) g.entries w.entries);
}

pub text_in_range : (text : List ℕ) (t : Rows) → Reads text t → AreInRange t
text_in_range text t r =
    moved (rows_of_parts r.reading.parts) t r.rows.nodes r.rows.links r.rows.outs r.rows.entries (reading_in_range (told_lines text) r.reading r.form)
