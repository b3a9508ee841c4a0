-- The numbers of the rows that settings have are within the ranges of their types.
use Rattle.std.proofs.Common.{◌≡◌, ℕ, ◌-◌, ◌<◌, ◌≤◌, ◌^◌, pos, negsuc, Bool, true, false, cond, nat_le, codes, All, List, [], Option, Some, None, refl, subst, arith}
use Rattle.std.specs.List.{AllByRecursion}
use Rattle.std.proofs.lemmas.Bool.{leb-true}
use Rattle.std.proofs.lemmas.List.Elements.{All-from_recursion}
use Rattle.plant_laws.specs.plant_model.Types.{Addr, ParentLink, Link, As, ElementRow}
use Rattle.dom_base.specs.AddrText.{addr_in}
use Rattle.pcep_subobjects.specs.Addresses.{IsAddr}
use Rattle.toml.specs.Data.{Data, Items, no_items, item, Members, string, integer, float, boolean, datetime, array, table, as_bool, as_str, get_member}
use Rattle.plant_text.specs.declared.fault.Breach.{Breach}
use Rattle.plant_text.specs.declared.rows.Found.{Found}
use Rattle.plant_text.specs.declared.forms.Ends.{Ends}
use Rattle.plant_text.specs.SettingsText.{Form, addr_of, as_of, colour_of, element_form, element_of, ends_in, file_of, has_only, link_in, needed, number, numbers_of, optional, parent_link_form, parent_link_of, parent_links_of, row_in, rows_in, rows_of, sheet_in, with_row, wrong_in}
use Rattle.plant_laws.specs.plant_model.Plant.{IsLinkInRange}
use Rattle.run_laws.proofs.TextLemmas.AddrRanges.{addr_in_range, by_parts, under_test}

held : {X : Type 0} (x y : X) → Some x ≡ Some y → x ≡ y
held x y is = cc

-- ---- values

number_within : (most : ℕ) (d : Data) (n : ℕ) → number most d ≡ Some n → n ≤ most
number_within most (integer (pos m)) n is = go (nat_le m most) refl is
  where
    go : (b : Bool) → nat_le m most ≡ b → cond b (Some m) None ≡ Some n → n ≤ most
    go true within e = let same : m ≡ n = cc (e) in subst (λ (k : ℕ). k ≤ most) same (leb-true m most within)
    go false within e = absurd (cc)
number_within most (integer (negsuc m)) n is = absurd (cc)
number_within most (string s) n is = absurd (cc)
number_within most (float x) n is = absurd (cc)
number_within most (boolean b) n is = absurd (cc)
number_within most (datetime t) n is = absurd (cc)
number_within most (array ds) n is = absurd (cc)
number_within most (table ms) n is = absurd (cc)

as_below : (d : Data) (a : As) → as_of d ≡ Some a → a.0 < 2 ^ 16
as_below d a is =
    let p = by_parts (number (2 ^ 16 - 1) d) _ a is in
    let made : As = record { 0 = p.0 } in
    let same : made ≡ a = held made a p.2 in
    let within = number_within (2 ^ 16 - 1) d p.0 p.1 in
    subst (λ (b : As). b.0 < 2 ^ 16) same (omega (arith, within))

addr_within : (d : Data) (a : Addr) → addr_of d ≡ Some a → IsAddr a
addr_within d a is = let p = by_parts (as_str d) addr_in a is in addr_in_range p.0 a p.2

-- the value of a key that a table must have
as_at : (key : List ℕ) (ms : Members) (a : As) → needed as_of key ms ≡ Some a → a.0 < 2 ^ 16
as_at key ms a is = let p = by_parts (get_member key ms) as_of a is in as_below p.0 a p.2

addr_at : (key : List ℕ) (ms : Members) (a : Addr) → needed addr_of key ms ≡ Some a → IsAddr a
addr_at key ms a is = let p = by_parts (get_member key ms) addr_of a is in addr_within p.0 a p.2

-- ---- rows

pub record IsElementInRange (e : ElementRow) : Type 0 where
  pub own : e.own.0 < 2 ^ 16
  pub id : IsAddr e.id

pub record IsParentLinkInRange (l : ParentLink) : Type 0 where
  pub from_as : l.from_as.0 < 2 ^ 16
  pub to_as : l.to_as.0 < 2 ^ 16
  pub link : IsLinkInRange l.link

element_in_range : (ms : Members) (e : ElementRow) → element_of ms ≡ Some e → IsElementInRange e
unfolding element_of
element_in_range ms e is =
    let own = by_parts (needed as_of (codes "as") ms) _ e is in
    let id = by_parts (needed addr_of (codes "id") ms) _ e own.2 in
    let life = by_parts (optional (number (2 ^ 16 - 1)) 600 (codes "key_life") ms) _ e id.2 in
    let parent = by_parts (optional as_bool false (codes "parent") ms) _ e life.2 in
    let topology = by_parts (optional file_of None (codes "topology") ms) _ e parent.2 in
    let made : ElementRow = record { own = own.0; id = id.0; topology = topology.0; key_life = life.0; parent = parent.0 } in
    let same : made ≡ e = held made e topology.2 in
    subst IsElementInRange same (record { own = as_at (codes "as") ms own.0 own.1; id = addr_at (codes "id") ms id.0 id.1 })

record AreEndsInRange (e : Ends) : Type 0 where
  from : IsAddr e.from
  to : IsAddr e.to
  near : IsAddr e.near
  far : IsAddr e.far

ends_in_range : (ms : Members) (e : Ends) → ends_in ms ≡ Some e → AreEndsInRange e
unfolding ends_in
ends_in_range ms e is =
    let from = by_parts (needed addr_of (codes "from") ms) _ e is in
    let to = by_parts (needed addr_of (codes "to") ms) _ e from.2 in
    let near = by_parts (needed addr_of (codes "near") ms) _ e to.2 in
    let far = by_parts (needed addr_of (codes "far") ms) _ e near.2 in
    let made : Ends = record { from = from.0; to = to.0; near = near.0; far = far.0 } in
    let same : made ≡ e = held made e far.2 in
    subst AreEndsInRange same (record {
      from = addr_at (codes "from") ms from.0 from.1;
      to = addr_at (codes "to") ms to.0 to.1;
      near = addr_at (codes "near") ms near.0 near.1;
      far = addr_at (codes "far") ms far.0 far.1;
    })

link_in_range : (ms : Members) (l : Link) → link_in ms ≡ Some l → IsLinkInRange l
unfolding link_in
link_in_range ms l is =
    let ends = by_parts (ends_in ms) _ l is in
    let igp = by_parts (needed (number (2 ^ 32 - 1)) (codes "igp") ms) _ l ends.2 in
    let te = by_parts (needed (number (2 ^ 32 - 1)) (codes "te") ms) _ l igp.2 in
    let bw = by_parts (needed (number (2 ^ 64 - 1)) (codes "bw") ms) _ l te.2 in
    let colour = by_parts (needed colour_of (codes "colour") ms) _ l bw.2 in
    let srlgs = by_parts (optional numbers_of [] (codes "srlg") ms) _ l colour.2 in
    let e = ends.0 in
    let made : Link = record { from = e.from; to = e.to; near = e.near; far = e.far; igp = igp.0; te = te.0; bytes_per_second = bw.0; colour = colour.0; srlgs = srlgs.0 } in
    let same : made ≡ l = held made l srlgs.2 in
    let within = ends_in_range ms e ends.1 in
    subst IsLinkInRange same (record { from = within.from; to = within.to; near = within.near; far = within.far })

parent_link_in_range : (ms : Members) (l : ParentLink) → parent_link_of ms ≡ Some l → IsParentLinkInRange l
unfolding parent_link_of
parent_link_in_range ms l is =
    let from_as = by_parts (needed as_of (codes "from_as") ms) _ l is in
    let to_as = by_parts (needed as_of (codes "to_as") ms) _ l from_as.2 in
    let link = by_parts (link_in ms) _ l to_as.2 in
    let made : ParentLink = record { from_as = from_as.0; to_as = to_as.0; link = link.0 } in
    let same : made ≡ l = held made l link.2 in
    subst IsParentLinkInRange same (record {
      from_as = as_at (codes "from_as") ms from_as.0 from_as.1;
      to_as = as_at (codes "to_as") ms to_as.0 to_as.1;
      link = link_in_range ms link.0 link.1;
    })

-- ---- tables

-- what holds of each row that a form reads
abbrev Reading : {R : Type 0} → Form R → (R → Type 0) → Type 0
Reading {R} form Q = (ms : Members) (row : R) → form.read ms ≡ Some row → Q row

row_holds : {R : Type 0} (form : Form R) (Q : R → Type 0) → Reading form Q → (d : Data) (row : R) → row_in form d ≡ Some row → Q row
row_holds form Q reads (table ms) row is = reads ms row (under_test (has_only form.is_key ms) (form.read ms) row is)
row_holds form Q reads (string s) row is = absurd (cc)
row_holds form Q reads (integer z) row is = absurd (cc)
row_holds form Q reads (float x) row is = absurd (cc)
row_holds form Q reads (boolean b) row is = absurd (cc)
row_holds form Q reads (datetime t) row is = absurd (cc)
row_holds form Q reads (array ds) row is = absurd (cc)

-- a row in front, if it was read
row_before : {R : Type 0} (Q : R → Type 0) (o : Option R) (wrong : Breach) (others : Found R) → ((row : R) → o ≡ Some row → Q row) → AllByRecursion Q others.rows → AllByRecursion Q (with_row o wrong others).rows
row_before Q None wrong others one more = tt
row_before Q (Some row) wrong others one more = (one row refl, more)

rows_hold : {R : Type 0} (form : Form R) (Q : R → Type 0) → Reading form Q → (ds : Items) → AllByRecursion Q (rows_in form ds).rows
rows_hold form Q reads no_items = tt
rows_hold form Q reads (item d ds) = row_before Q (row_in form d) (wrong_in form d) (rows_in form ds) (row_holds form Q reads d) (rows_hold form Q reads ds)

table_holds : {R : Type 0} (form : Form R) (Q : R → Type 0) → Reading form Q → (o : Option Data) → AllByRecursion Q (rows_of form o).rows
table_holds form Q reads None = tt
table_holds form Q reads (Some (array ds)) = rows_hold form Q reads ds
table_holds form Q reads (Some (string s)) = tt
table_holds form Q reads (Some (integer z)) = tt
table_holds form Q reads (Some (float x)) = tt
table_holds form Q reads (Some (boolean b)) = tt
table_holds form Q reads (Some (datetime t)) = tt
table_holds form Q reads (Some (table ms)) = tt

parent_table_holds : (o : Option Data) → AllByRecursion IsParentLinkInRange (parent_links_of o).rows
parent_table_holds None = tt
parent_table_holds (Some (table ms)) = table_holds parent_link_form IsParentLinkInRange parent_link_in_range (get_member (codes "link") ms)
parent_table_holds (Some (string s)) = tt
parent_table_holds (Some (integer z)) = tt
parent_table_holds (Some (float x)) = tt
parent_table_holds (Some (boolean b)) = tt
parent_table_holds (Some (datetime t)) = tt
parent_table_holds (Some (array ds)) = tt

-- ---- all

pub elements_in_range : (root : Members) → All IsElementInRange (sheet_in root).parts.elements
elements_in_range root = All-from_recursion IsElementInRange (sheet_in root).parts.elements (table_holds element_form IsElementInRange element_in_range (get_member (codes "element") root))

pub parent_links_in_range : (root : Members) → All IsParentLinkInRange (sheet_in root).parts.parent_links
parent_links_in_range root = All-from_recursion IsParentLinkInRange (sheet_in root).parts.parent_links (parent_table_holds (get_member (codes "parent") root))
