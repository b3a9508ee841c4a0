-- Names that are looked for without a table.
use Rattle.std.proofs.Common.{◌≡◌, ◌∙◌, ℕ, zero, suc, ◌+◌, ◌||◌, Bool, true, false, cond, Option, Some, None, option_map, List, [], ◌∷◌, ◌++◌, length, map, take, slice_get, refl, sym, ap, subst, inl, inr, arith, length-append}
use Rattle.std.specs.Option.{is_some}
use Rattle.std.proofs.lemmas.Bool.{cases_Bool}
use Rattle.std.proofs.lemmas.List.{length-map}
use Rattle.std.proofs.lemmas.Option.{slice_get-map}
use Rattle.te_links.specs.declared.rows.Entry.{Entry}
use Rattle.te_links.specs.Rows.{Rows}
use Rattle.te_text.specs.declared.row.TextRow.{TextRow}
use Rattle.te_text.specs.declared.row.TextRow.TheVariants as rows
use Rattle.te_text.specs.TopologyText.{rows_in_order}
use Rattle.te_deltas.specs.declared.name.RowName.{RowName}
use Rattle.te_deltas.specs.declared.name.RowName.TheVariants as names
use Rattle.te_deltas.specs.declared.changes.Change.{Change}
use Rattle.te_deltas.specs.declared.changes.Change.TheVariants.{AddNode, DropNode, AddLink, DropLink, AddOut, DropOut, AddEntry, DropEntry}
use Rattle.te_deltas.specs.Changes.{added, changed, has_name, name_of, named, same_name, without}
use Rattle.te_deltas.specs.contracts.name.RowNamePartialEq.TheImpl as compared
use Rattle.te_deltas.proofs.Names.{compared_same, name_is}

-- ---- all rows by their places

abbrev pub name_at : List TextRow → ℕ → Option RowName
name_at list i = option_map name_of (slice_get list i)

past : {X : Type 0} (make : X → TextRow) (xs : List X) (rest : List TextRow) (i : ℕ) → slice_get (map make xs ++ rest) (length xs + i) ≡ slice_get rest i
past make [] rest i = let same : 0 + i ≡ i = omega arith in ap (λ (k : ℕ). slice_get rest k) same
past make (one ∷ xs) rest i =
    let same : length (one ∷ xs) + i ≡ suc (length xs + i) = omega arith in
    ap (λ (k : ℕ). slice_get (map make (one ∷ xs) ++ rest) k) same ∙ past make xs rest i

named_by : (o : Option TextRow) (row : TextRow) → o ≡ Some row → option_map name_of o ≡ Some (name_of row)
named_by o row is = ap (λ (p : Option TextRow). option_map name_of p) is

abbrev of_nodes : Rows → List TextRow
of_nodes g = map (λ n. rows.Node n) g.nodes

abbrev of_entries : Rows → List TextRow
of_entries g = map (λ e. rows.Entry e) g.entries

abbrev from_outs : Rows → List TextRow
from_outs g = map (λ o. rows.Out o) g.outs ++ of_entries g

abbrev from_links : Rows → List TextRow
from_links g = map (λ l. rows.Link l) g.links ++ from_outs g

pub entry_named : (g : Rows) (i j : ℕ) (e : Entry) → length g.nodes + (length g.links + (length g.outs + j)) ≡ i → slice_get g.entries j ≡ Some e → name_at (rows_in_order g) i ≡ Some (names.Entry e)
entry_named g i j e is at =
    subst (λ (k : ℕ). name_at (rows_in_order g) k ≡ Some (names.Entry e)) is
    (named_by _ (rows.Entry e)
    (past (λ n. rows.Node n) g.nodes (from_links g) (length g.links + (length g.outs + j)) ∙ past (λ l. rows.Link l) g.links (from_outs g) (length g.outs + j) ∙ past (λ o. rows.Out o) g.outs (of_entries g) j ∙ slice_get-map (λ e. rows.Entry e) g.entries j ∙ ap (λ (p : Option Entry). option_map (λ e. rows.Entry e) p) at))

pub rows_counted : (g : Rows) → length (rows_in_order g) ≡ length g.nodes + (length g.links + (length g.outs + length g.entries))
rows_counted g = omega (
  arith,
  length-append (of_nodes g) (from_links g),
  length-append (map (λ l. rows.Link l) g.links) (from_outs g),
  length-append (map (λ o. rows.Out o) g.outs) (of_entries g),
  length-map g.nodes (λ n. rows.Node n),
  length-map g.links (λ l. rows.Link l),
  length-map g.outs (λ o. rows.Out o),
  length-map g.entries (λ e. rows.Entry e),
)

-- ---- a name among rows

or_true : (b : Bool) → (b || true) ≡ true
or_true true = refl
or_true false = refl

pub has_hit : (name : RowName) (list : List TextRow) (i : ℕ) (found : RowName) → name_at list i ≡ Some found → same_name name found ≡ true → has_name name list ≡ true
has_hit name [] i found at is = absurd (let none : None ≡ Some found = at in cc)
has_hit name (row ∷ list) zero found at is =
    let same : Some (name_of row) ≡ Some found = at in
    let one : name_of row ≡ found = cc in
    let hit : same_name name (name_of row) ≡ true = subst (λ (m : RowName). same_name name m ≡ true) (sym one) is in
    ap (λ (b : Bool). b || has_name name list) hit
has_hit name (row ∷ list) (suc i) found at is = ap (λ (b : Bool). same_name name (name_of row) || b) (has_hit name list i found at is) ∙ or_true (same_name name (name_of row))

more : (name : RowName) (list : List TextRow) (i : ℕ) (found : RowName) → name_at list i ≡ Some found → same_name name found ≡ false → has_name name (take (suc i) list) ≡ has_name name (take i list)
more name [] i found at is = absurd (let none : None ≡ Some found = at in cc)
more name (row ∷ list) zero found at is =
    let same : Some (name_of row) ≡ Some found = at in
    let one : name_of row ≡ found = cc in
    let miss : same_name name (name_of row) ≡ false = subst (λ (m : RowName). same_name name m ≡ false) (sym one) is in
    ap (λ (b : Bool). b || false) miss
more name (row ∷ list) (suc i) found at is = ap (λ (b : Bool). same_name name (name_of row) || b) (more name list i found at is)

pub has_miss : (name : RowName) (list : List TextRow) (i : ℕ) (found : RowName) → has_name name (take i list) ≡ false → name_at list i ≡ Some found → same_name name found ≡ false → has_name name (take (i + 1) list) ≡ false
has_miss name list i found none at is =
    let one : i + 1 ≡ suc i = omega arith in
    ap (λ (k : ℕ). has_name name (take k list)) one ∙ more name list i found at is ∙ none

-- ---- a name after one more change

or_cond : (t a b : Bool) → (b || cond t true a) ≡ cond t true (b || a)
or_cond true a b = or_true b
or_cond false a b = refl

one_cond : (t : Bool) → (t || false) ≡ cond t true false
one_cond true = refl
one_cond false = refl

none_cond : (t : Bool) → false ≡ cond t false false
none_cond true = refl
none_cond false = refl

pushed : (name : RowName) (list : List TextRow) (row : TextRow) → has_name name (list ++ row ∷ []) ≡ cond (same_name name (name_of row)) true (has_name name list)
pushed name [] row = one_cond (same_name name (name_of row))
pushed name (one ∷ list) row =
    ap (λ (b : Bool). same_name name (name_of one) || b) (pushed name list row) ∙ or_cond (same_name name (name_of row)) (has_name name list) (same_name name (name_of one))

gone : (t s h k : Bool) → h ≡ cond t false k → (t ≡ false → s ≡ false) → h ≡ cond t false (s || k)
gone true s h k is other = is
gone false s h k is other = is ∙ ap (λ (b : Bool). b || k) (sym (other refl))

kept : (t s h k : Bool) → h ≡ cond t false k → (t ≡ true → s ≡ false) → (s || h) ≡ cond t false (s || k)
kept true s h k is other = ap (λ (b : Bool). b || h) (other refl) ∙ is
kept false s h k is other = ap (λ (b : Bool). s || b) is

dropped : (name out : RowName) (list : List TextRow) → has_name name (without out list) ≡ cond (same_name name out) false (has_name name list)
dropped name out [] = none_cond (same_name name out)
dropped name out (one ∷ list) =
    elim (cases_Bool (same_name out (name_of one))) [
      | inl hit ↦
          rw hit
          (gone (same_name name out) (same_name name (name_of one)) (has_name name (without out list)) (has_name name list) (dropped name out list)
          (λ no. subst (λ (m : RowName). same_name name m ≡ false) (name_is out (name_of one) hit) no))
      | inr miss ↦
          rw miss
          (kept (same_name name out) (same_name name (name_of one)) (has_name name (without out list)) (has_name name list) (dropped name out list)
          (λ yes. subst (λ (m : RowName). same_name m (name_of one) ≡ false) (sym (name_is name out yes)) miss))
    ]

pub turn : (name : RowName) (list : List TextRow) (change : Change) → has_name name (changed list change) ≡ cond (same_name name (named change)) (is_some (added change)) (has_name name list)
turn name list (AddNode n) = pushed name list (rows.Node n)
turn name list (AddLink l) = pushed name list (rows.Link l)
turn name list (AddOut o) = pushed name list (rows.Out o)
turn name list (AddEntry e) = pushed name list (rows.Entry e)
turn name list (DropNode n) = dropped name (names.Node n) list
turn name list (DropLink far) = dropped name (names.Link far) list
turn name list (DropOut far) = dropped name (names.Out far) list
turn name list (DropEntry e) = dropped name (names.Entry e) list

-- ---- what comparisons and loops tell

pub eq_told : (a b n : RowName) (t : Bool) → t ≡ compared.eq-value.it a b → b ≡ n → same_name a n ≡ t
eq_told a b n t is name = ap (λ (m : RowName). same_name a m) (sym name) ∙ sym (compared_same a b) ∙ sym is
