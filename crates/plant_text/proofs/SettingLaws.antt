-- What settings are like that obey the rules.
use Rattle.std.proofs.Common.{◌≡◌, ◌≢◌, ℕ, zero, suc, ◌+◌, ◌==◌, ◌&&◌, ◌||◌, ◌<◌, ◌≤◌, Bool, true, false, not, nat_le, nat_lt, is_some, codes, All, AllPairs, List, [], ◌∷◌, ◌++◌, Option, Some, None, IfSome, refl, sym, ◌∙◌, ap, append_assoc, arith, inl, inr}
use Rattle.std.proofs.lemmas.Bool.{cases_Bool, and_parts, leb-true, ltb-true, eqb-false}
use Rattle.std.proofs.lemmas.Bool.Decides.{not_from_Decides}
use Rattle.std.proofs.lemmas.Slice.Eq.{bytes_eq-Decides}
use Rattle.std.proofs.lemmas.List.Elements.{All-nil, All-cons}
use Rattle.std.proofs.lemmas.List.Kept.{AllPairs-cons}
use Rattle.std.specs.List.{list_any}
use Rattle.std.specs.Str.{bytes_eq}
use Rattle.dom_base.specs.declared.names.As.{As}
use Rattle.dom_base.specs.declared.addr.Addr.{Addr}
use Rattle.dom_base.specs.declared.border.ParentLink.{ParentLink}
use Rattle.dom_base.specs.AddrOrder.{rank}
use Rattle.disclosure.specs.declared.class.Class.{Class}
use Rattle.disclosure.specs.declared.class.Class.TheVariants.{Client, Neighbour, Parent}
use Rattle.plant_text.specs.declared.fault.Breach.{Breach}
use Rattle.plant_text.specs.declared.fault.Breach.TheVariants.{TooMany}
use Rattle.plant_text.specs.declared.fault.NetFault.TheVariants as fault
use Rattle.plant_text.specs.declared.settings.NetworkParts.{NetworkParts}
use Rattle.plant_text.specs.declared.settings.ElementRow.{ElementRow}
use Rattle.plant_text.specs.declared.settings.PeerRow.{PeerRow}
use Rattle.plant_text.specs.declared.settings.DenyRow.{DenyRow}
use Rattle.plant_text.specs.Names.{same_as, same_link, parent_as}
use Rattle.plant_text.specs.Settings.{is_element}
use Rattle.plant_text.specs.Rules.{Rules, at_row, rows_from, table, rules_of, sheet_of, is_name, is_class, is_no_port, is_neighbour, is_reached, leads, leads_out, peer_form, repeats_peer, element_rules, link_rules, peer_rules, deny_rules, parent_link_rules, is_between, is_domain}
use Rattle.plant_text.specs.Faults.{first_of}
use Rattle.plant_text.specs.Laws.{AreElements, AreLinks, ArePeers, AreDenials, AreParentLinks, RulesAreWorth}
use Rattle.plant_text.proofs.RuleLaws.{none_of, none_front, none_back, few_rows}
use Rattle.plant_text.proofs.SheetLaws.{AreClear, all_clear, left_false, right_false}

-- ---- rules of rows

-- the rules of a row that breaks none
row_clear : (table : List ℕ) (i : ℕ) (rs : Rules Breach) → first_of (at_row table i rs) ≡ None → first_of rs ≡ None
row_clear table i [] none = refl
row_clear table i (r ∷ rs) none =
    elim (cases_Bool r.0) [
      | inl t ↦ absurd (let no : is_some (first_of (at_row table i (r ∷ rs))) ≡ false = ap is_some none in let yes : true ≡ false = rw t at no in cc)
      | inr f ↦ rw f (row_clear table i rs (rw f at none))
    ]

-- a test in front that does not hold, and those behind it
tail_clear : {X : Type 0} (b : Bool) (x : X) (rs : Rules X) → first_of ((b, x) ∷ rs) ≡ None → first_of rs ≡ None
tail_clear true x rs none = absurd (let no : Some x ≡ None = none in cc)
tail_clear false x rs none = none

head_false : {X : Type 0} (b : Bool) (x : X) (rs : Rules X) → first_of ((b, x) ∷ rs) ≡ None → b ≡ false
head_false true x rs none = absurd (let no : Some x ≡ None = none in cc)
head_false false x rs none = refl

-- the test of the rule at a place
abbrev test_at : {X : Type 0} → Rules X → ℕ → Bool
test_at [] k = false
test_at (r ∷ rs) zero = r.0
test_at (r ∷ rs) (suc k) = test_at rs k

-- where none is broken, no test holds
rule_false : {X : Type 0} (rs : Rules X) (k : ℕ) → first_of rs ≡ None → test_at rs k ≡ false
rule_false [] k none = refl
rule_false ((b, x) ∷ rs) zero none = head_false b x rs none
rule_false ((b, x) ∷ rs) (suc k) none = rule_false rs k (tail_clear b x rs none)

-- a row of rows that break none, and those behind it
head_clear : {R : Type 0} (name : List ℕ) (limit : ℕ) (asked : List R → R → Rules Breach) (i : ℕ) (before : List R) (row : R) (rows : List R) → first_of (rows_from name limit asked i before (row ∷ rows)) ≡ None → first_of (asked before row) ≡ None
head_clear name limit asked i before row rows none =
    let here = none_front (at_row name i ((nat_le limit i, TooMany) ∷ asked before row)) (rows_from name limit asked (i + 1) (before ++ row ∷ []) rows) none in
    tail_clear (nat_le limit i) TooMany (asked before row) (row_clear name i ((nat_le limit i, TooMany) ∷ asked before row) here)

others_clear : {R : Type 0} (name : List ℕ) (limit : ℕ) (asked : List R → R → Rules Breach) (i : ℕ) (before : List R) (row : R) (rows : List R) → first_of (rows_from name limit asked i before (row ∷ rows)) ≡ None → first_of (rows_from name limit asked (i + 1) (before ++ row ∷ []) rows) ≡ None
others_clear name limit asked i before row rows none = none_back (at_row name i ((nat_le limit i, TooMany) ∷ asked before row)) (rows_from name limit asked (i + 1) (before ++ row ∷ []) rows) none

-- what a row says that breaks nothing, whatever stands before it
all_from : {R : Type 0} (Q : R → Type 0) (name : List ℕ) (limit : ℕ) (asked : List R → R → Rules Breach) (says : (before : List R) (row : R) → first_of (asked before row) ≡ None → Q row) (i : ℕ) (before rows : List R)
    → first_of (rows_from name limit asked i before rows) ≡ None → All Q rows
all_from Q name limit asked says i before [] none = All-nil Q
all_from Q name limit asked says i before (row ∷ rows) none =
    All-cons Q row rows (says before row (head_clear name limit asked i before row rows none))
    (all_from Q name limit asked says (i + 1) (before ++ row ∷ []) rows (others_clear name limit asked i before row rows none))

-- what it says of a row before it
any_false : {R : Type 0} (p : R → Bool) (front : List R) (x : R) (back : List R) → list_any p (front ++ x ∷ back) ≡ false → p x ≡ false
any_false p [] x back e = left_false (p x) (list_any p back) e
any_false p (y ∷ front) x back e = any_false p front x back (right_false (p y) (list_any p (front ++ x ∷ back)) e)

later_from : {R : Type 0} (P : R → R → Type 0) (name : List ℕ) (limit : ℕ) (asked : List R → R → Rules Breach)
    (says : (front : List R) (x : R) (back : List R) (row : R) → first_of (asked (front ++ x ∷ back) row) ≡ None → P x row) (i : ℕ) (front : List R) (x : R) (back rows : List R)
    → first_of (rows_from name limit asked i (front ++ x ∷ back) rows) ≡ None → All (P x) rows
later_from P name limit asked says i front x back [] none = All-nil (P x)
later_from P name limit asked says i front x back (row ∷ rows) none =
    All-cons (P x) row rows (says front x back row (head_clear name limit asked i (front ++ x ∷ back) row rows none))
    (later_from P name limit asked says (i + 1) front x (back ++ row ∷ []) rows
    (rw (append_assoc front (x ∷ back) (row ∷ [])) at (others_clear name limit asked i (front ++ x ∷ back) row rows none)))

pairs_from : {R : Type 0} (P : R → R → Type 0) (name : List ℕ) (limit : ℕ) (asked : List R → R → Rules Breach)
    (says : (front : List R) (x : R) (back : List R) (row : R) → first_of (asked (front ++ x ∷ back) row) ≡ None → P x row) (i : ℕ) (before rows : List R)
    → first_of (rows_from name limit asked i before rows) ≡ None → AllPairs P rows
pairs_from P name limit asked says i before [] none = λ j k d below inside. absurd (omega arith)
pairs_from P name limit asked says i before (row ∷ rows) none =
    let others = others_clear name limit asked i before row rows none in
    AllPairs-cons P row rows (later_from P name limit asked says (i + 1) before row [] rows others) (pairs_from P name limit asked says (i + 1) (before ++ row ∷ []) rows others)

-- ---- tables

all_in : {R : Type 0} (Q : R → Type 0) (name : List ℕ) (limit : ℕ) (asked : List R → R → Rules Breach) (says : (before : List R) (row : R) → first_of (asked before row) ≡ None → Q row) (rows : List R)
    → first_of (table name limit asked rows None) ≡ None → All Q rows
all_in Q name limit asked says rows none = all_from Q name limit asked says 0 [] rows (none_front (rows_from name limit asked 0 [] rows) [] none)

pairs_in : {R : Type 0} (P : R → R → Type 0) (name : List ℕ) (limit : ℕ) (asked : List R → R → Rules Breach)
    (says : (front : List R) (x : R) (back : List R) (row : R) → first_of (asked (front ++ x ∷ back) row) ≡ None → P x row) (rows : List R)
    → first_of (table name limit asked rows None) ≡ None → AllPairs P rows
pairs_in P name limit asked says rows none = pairs_from P name limit asked says 0 [] rows (none_front (rows_from name limit asked 0 [] rows) [] none)

-- ---- tests that do not hold

not_false : (b : Bool) → not b ≡ false → b ≡ true
not_false true e = refl
not_false false e = absurd (let no : true ≡ false = e in cc)

not_true : (b : Bool) → not b ≡ true → b ≡ false
not_true true e = absurd (let no : false ≡ true = e in cc)
not_true false e = refl

other_as : (a b : As) → same_as a b ≡ false → a ≢ b
other_as a b e same = eqb-false a.0 b.0 e (ap (λ (x : As). x.0) same)

is_other : (a : As) → is_domain a ≡ true → a ≢ parent_as
is_other a is = other_as a parent_as (not_true (same_as a parent_as) is)

other_addr : (a b : Addr) → (rank a == rank b) ≡ false → a ≢ b
other_addr a b e same = eqb-false (rank a) (rank b) e (ap rank same)

other_name : (a b : List ℕ) → bytes_eq a b ≡ false → a ≢ b
other_name a b e = not_from_Decides (bytes_eq a b) (bytes_eq-Decides a b) e

in_range : (low high n : ℕ) → is_between low high n ≡ true → (low ≤ n) × (n ≤ high)
in_range low high n is =
    let (above, below) = and_parts (nat_le low n) (nat_le n high) is in
    (leb-true low n above, leb-true n high below)

-- ---- elements

element_form : (n : NetworkParts) (before : List ElementRow) (e : ElementRow) → first_of (element_rules (sheet_of n) before e) ≡ None → (is_domain e.own && is_between 1 3600 e.key_life) ≡ true
element_form n before e none =
    not_false (is_domain e.own && is_between 1 3600 e.key_life) (rule_false (element_rules (sheet_of n) before e) 0 none)

element_again : (n : NetworkParts) (front : List ElementRow) (d : ElementRow) (back : List ElementRow) (e : ElementRow) → first_of (element_rules (sheet_of n) (front ++ d ∷ back) e) ≡ None → (same_as d.own e.own || (rank d.id == rank e.id)) ≡ false
element_again n front d back e none =
    any_false (λ (f : ElementRow). same_as f.own e.own || (rank f.id == rank e.id)) front d back (rule_false (element_rules (sheet_of n) (front ++ d ∷ back) e) 1 none)

child_has : (child parent : Bool) → (child && not (parent || false)) ≡ false → child ≡ true → parent ≡ true
child_has true true e is = refl
child_has true false e is = absurd (let no : true ≡ false = e in cc)
child_has false parent e is = absurd (let no : false ≡ true = is in cc)

element_child : (n : NetworkParts) (before : List ElementRow) (e : ElementRow) → first_of (element_rules (sheet_of n) before e) ≡ None → e.parent ≡ true → is_some n.parent ≡ true
element_child n before e none =
    child_has e.parent (is_some n.parent) (rule_false (element_rules (sheet_of n) before e) 2 none)

are_elements : (n : NetworkParts) → AreClear (sheet_of n) → AreElements n
are_elements n c =
    let none = c.elements_clear in
    let asked = element_rules (sheet_of n) in
    let name = codes "element" in
    record {
      few = few_rows name 16 asked n.elements None none;
      numbers_differ =
          pairs_in (λ (d e : ElementRow). d.own ≢ e.own) name 16 asked
          (λ front d back e clear. other_as d.own e.own (left_false (same_as d.own e.own) (rank d.id == rank e.id) (element_again n front d back e clear))) n.elements none;
      ids_differ =
          pairs_in (λ (d e : ElementRow). d.id ≢ e.id) name 16 asked
          (λ front d back e clear. other_addr d.id e.id (right_false (same_as d.own e.own) (rank d.id == rank e.id) (element_again n front d back e clear))) n.elements none;
      domains =
          all_in (λ (e : ElementRow). e.own ≢ parent_as) name 16 asked
          (λ before e clear. is_other e.own (and_parts (is_domain e.own) (is_between 1 3600 e.key_life) (element_form n before e clear)).0) n.elements none;
      lives =
          all_in (λ (e : ElementRow). (1 ≤ e.key_life) × (e.key_life ≤ 3600)) name 16 asked
          (λ before e clear. in_range 1 3600 e.key_life (and_parts (is_domain e.own) (is_between 1 3600 e.key_life) (element_form n before e clear)).1) n.elements none;
      children = all_in (λ (e : ElementRow). e.parent ≡ true → is_some n.parent ≡ true) name 16 asked (element_child n) n.elements none;
    }

-- ---- links

are_links : (n : NetworkParts) → AreClear (sheet_of n) → AreLinks n
are_links n c =
    let none = c.links_clear in
    let asked = link_rules (sheet_of n) in
    let name = codes "link" in
    record {
      few = few_rows name 120 asked n.links None none;
      differ = all_in (λ (l : As × As). l.0 ≢ l.1) name 120 asked (λ before l clear. other_as l.0 l.1 (rule_false (asked before l) 0 clear)) n.links none;
      known =
          all_in (λ (l : As × As). (is_element n l.0 ≡ true) × (is_element n l.1 ≡ true)) name 120 asked
          (λ before l clear. and_parts (is_element n l.0) (is_element n l.1) (not_false (is_element n l.0 && is_element n l.1) (rule_false (asked before l) 2 clear))) n.links none;
      once =
          pairs_in (λ (l m : As × As). same_link l.0 l.1 m.0 m.1 ≡ false) name 120 asked
          (λ front k back l clear. any_false (λ (m : As × As). same_link m.0 m.1 l.0 l.1) front k back (rule_false (asked (front ++ k ∷ back) l) 1 clear)) n.links none;
    }

-- ---- peers

-- a peer that breaks no rule
peer_whole : (n : NetworkParts) (before : List PeerRow) (p : PeerRow) → first_of (peer_rules (sheet_of n) before p) ≡ None → peer_form p ≡ true
peer_whole n before p none =
    not_false (peer_form p) (rule_false (peer_rules (sheet_of n) before p) 0 none)

peer_once : (n : NetworkParts) (before : List PeerRow) (p : PeerRow) → first_of (peer_rules (sheet_of n) before p) ≡ None → repeats_peer (sheet_of n) before p ≡ false
peer_once n before p none = rule_false (peer_rules (sheet_of n) before p) 1 none

peer_port : (n : NetworkParts) (before : List PeerRow) (p : PeerRow) → first_of (peer_rules (sheet_of n) before p) ≡ None → 0 < p.port
peer_port n before p none =
    let named = (and_parts ((is_name p.name && is_class p.class) && nat_lt 0 p.port) (not p.down || leads_out p.class) (peer_whole n before p none)).0 in
    ltb-true 0 p.port (and_parts (is_name p.name && is_class p.class) (nat_lt 0 p.port) named).1

peer_again : (n : NetworkParts) (front : List PeerRow) (o : PeerRow) (back : List PeerRow) (p : PeerRow) → first_of (peer_rules (sheet_of n) (front ++ o ∷ back) p) ≡ None → o.name ≢ p.name
peer_again n front o back p none =
    let before = front ++ o ∷ back in
    let named = list_any (λ (q : PeerRow). bytes_eq q.name p.name) before in
    other_name o.name p.name
    (any_false (λ (q : PeerRow). bytes_eq q.name p.name) front o back
    (left_false named (p.down && is_reached (sheet_of n) before p.at p.class) (peer_once n before p none)))

-- ---- peers that paths go on through

is_down : (down other : Bool) → (not down || other) ≡ true → down ≡ true → other ≡ true
is_down true other e is = e
is_down false other e is = absurd (let no : false ≡ true = is in cc)

not_reached : (down reached : Bool) → (down && reached) ≡ false → down ≡ true → reached ≡ false
not_reached true reached e is = e
not_reached false reached e is = absurd (let no : false ≡ true = is in cc)

peer_out : (n : NetworkParts) (before : List PeerRow) (p : PeerRow) → first_of (peer_rules (sheet_of n) before p) ≡ None → p.down ≡ true → leads_out p.class ≡ true
peer_out n before p none =
    let named = (is_name p.name && is_class p.class) && nat_lt 0 p.port in
    is_down p.down (leads_out p.class) (and_parts named (not p.down || leads_out p.class) (peer_whole n before p none)).1

peer_alone : (n : NetworkParts) (before : List PeerRow) (p : PeerRow) → first_of (peer_rules (sheet_of n) before p) ≡ None → p.down ≡ true → is_reached (sheet_of n) before p.at p.class ≡ false
peer_alone n before p none =
    let reached = is_reached (sheet_of n) before p.at p.class in
    not_reached p.down reached (right_false (list_any (λ (q : PeerRow). bytes_eq q.name p.name) before) (p.down && reached) (peer_once n before p none))

out_is : (n : NetworkParts) (before : List PeerRow) (at : As) (class : Class) → leads_out class ≡ true → is_reached (sheet_of n) before at class ≡ false →
    (a : As) × (class ≡ Neighbour a) × (is_element n a ≡ false) × (list_any (leads at a) before ≡ false)
out_is n before at (Client expand) out alone = absurd (let no : false ≡ true = out in cc)
out_is n before at (Neighbour a) out alone = (a, refl, left_false (is_element n a) (list_any (leads at a) before) alone, right_false (is_element n a) (list_any (leads at a) before) alone)
out_is n before at Parent out alone = absurd (let no : false ≡ true = out in cc)

peer_down : (n : NetworkParts) (before : List PeerRow) (p : PeerRow) → first_of (peer_rules (sheet_of n) before p) ≡ None → p.down ≡ true →
    (a : As) × (p.class ≡ Neighbour a) × (is_element n a ≡ false) × (list_any (leads p.at a) before ≡ false)
peer_down n before p none is = out_is n before p.at p.class (peer_out n before p none is) (peer_alone n before p none is)

same_self : (a : As) → same_as a a ≡ true
same_self a = grind arith

leads_there : (o : PeerRow) (at a : As) → o.down ≡ true → o.at ≡ at → o.class ≡ Neighbour a → leads at a o ≡ true
leads_there o at a down here class =
    ap (λ (x : Bool). (x && same_as o.at at) && is_neighbour a o.class) down
    ∙ ap (λ (x : As). (true && same_as x at) && is_neighbour a o.class) here
    ∙ ap (λ (x : Bool). (true && x) && is_neighbour a o.class) (same_self at)
    ∙ ap (λ (x : Class). (true && true) && is_neighbour a x) class
    ∙ same_self a

other_ways : (n : NetworkParts) (front : List PeerRow) (o : PeerRow) (back : List PeerRow) (p : PeerRow) → first_of (peer_rules (sheet_of n) (front ++ o ∷ back) p) ≡ None →
    o.down ≡ true → p.down ≡ true → o.at ≡ p.at → o.class ≢ p.class
other_ways n front o back p none first second here same =
    let is = peer_down n (front ++ o ∷ back) p none second in
    let never : leads p.at is.0 o ≡ false = any_false (leads p.at is.0) front o back is.3 in
    let clash : true ≡ false = sym (leads_there o p.at is.0 first here (same ∙ is.1)) ∙ never in
    cc

are_peers : (n : NetworkParts) → AreClear (sheet_of n) → ArePeers n
are_peers n c =
    let none = c.peers_clear in
    let asked = peer_rules (sheet_of n) in
    let name = codes "peer" in
    record {
      few = few_rows name 256 asked n.peers None none;
      names_differ = pairs_in (λ (p q : PeerRow). p.name ≢ q.name) name 256 asked (peer_again n) n.peers none;
      known = all_in (λ (p : PeerRow). is_element n p.at ≡ true) name 256 asked (λ before p clear. not_false (is_element n p.at) (rule_false (asked before p) 2 clear)) n.peers none;
      ports = all_in (λ (p : PeerRow). 0 < p.port) name 256 asked (peer_port n) n.peers none;
      downs =
          all_in (λ (p : PeerRow). p.down ≡ true → (a : As) × (p.class ≡ Neighbour a) × (is_element n a ≡ false)) name 256 asked
          (λ before p clear is. (let out = peer_down n before p clear is in (out.0, out.1, out.2))) n.peers none;
      downs_differ = pairs_in (λ (p q : PeerRow). p.down ≡ true → q.down ≡ true → p.at ≡ q.at → p.class ≢ q.class) name 256 asked (other_ways n) n.peers none;
    }

-- ---- rows of policy

are_denials : (n : NetworkParts) → AreClear (sheet_of n) → AreDenials n
are_denials n c =
    let none = c.deny_clear in
    let asked = deny_rules (sheet_of n) in
    let name = codes "deny" in
    record {
      few = few_rows name 4096 asked n.deny None none;
      known = all_in (λ (r : DenyRow). is_element n r.at ≡ true) name 4096 asked (λ before r clear. not_false (is_element n r.at) (rule_false (asked before r) 1 clear)) n.deny none;
      domains = all_in (λ (r : DenyRow). r.deny.next ≢ parent_as) name 4096 asked (λ before r clear. is_other r.deny.next (not_false (is_domain r.deny.next) (rule_false (asked before r) 0 clear))) n.deny none;
    }

-- ---- links of the parent

parent_link_again : (n : NetworkParts) (front : List ParentLink) (k : ParentLink) (back : List ParentLink) (l : ParentLink) → first_of (parent_link_rules (sheet_of n) (front ++ k ∷ back) l) ≡ None → ((rank k.link.near == rank l.link.near) || (rank k.link.far == rank l.link.far)) ≡ false
parent_link_again n front k back l none =
    any_false (λ (p : ParentLink). (rank p.link.near == rank l.link.near) || (rank p.link.far == rank l.link.far)) front k back
    (rule_false (parent_link_rules (sheet_of n) (front ++ k ∷ back) l) 2 none)

are_parent_links : (n : NetworkParts) → AreClear (sheet_of n) → AreParentLinks n
are_parent_links n c =
    let none = c.parent_links_clear in
    let asked = parent_link_rules (sheet_of n) in
    let name = codes "parent.link" in
    record {
      few = few_rows name 256 asked n.parent_links None none;
      nears_differ =
          pairs_in (λ (k l : ParentLink). k.link.near ≢ l.link.near) name 256 asked
          (λ front k back l clear. other_addr k.link.near l.link.near (left_false (rank k.link.near == rank l.link.near) (rank k.link.far == rank l.link.far) (parent_link_again n front k back l clear))) n.parent_links none;
      fars_differ =
          pairs_in (λ (k l : ParentLink). k.link.far ≢ l.link.far) name 256 asked
          (λ front k back l clear. other_addr k.link.far l.link.far (right_false (rank k.link.near == rank l.link.near) (rank k.link.far == rank l.link.far) (parent_link_again n front k back l clear))) n.parent_links none;
    }

-- ---- all

are_workers : (n : NetworkParts) → AreClear (sheet_of n) → (1 ≤ n.workers) × (n.workers ≤ 8)
are_workers n c =
    in_range 1 8 n.workers
    (not_false (is_between 1 8 n.workers)
    (head_false (not (is_between 1 8 n.workers)) (fault.Shape (codes "workers") 0) [] c.workers_clear))

real_port : (port : Option ℕ) → is_no_port port ≡ false → IfSome port (λ p. 0 < p)
real_port None is = tt
real_port (Some p) is = let other = eqb-false p 0 is in omega arith

is_watch : (n : NetworkParts) → AreClear (sheet_of n) → IfSome n.watch (λ p. 0 < p)
is_watch n c = real_port n.watch (head_false (is_no_port n.watch) (fault.Shape (codes "watch") 0) [] c.watch_clear)

pub rules_are_worth : RulesAreWorth
rules_are_worth n obeyed =
    let c = all_clear (sheet_of n) (none_of (rules_of n) obeyed) in
    record { elements = are_elements n c; links = are_links n c; peers = are_peers n c; deny = are_denials n c; parent_links = are_parent_links n c; workers = are_workers n c; watch = is_watch n c }
