-- Settings that a text gives are a network of the model.
use Rattle.std.proofs.Common.{◌≡◌, ◌≢◌, ℕ, zero, suc, ◌+◌, ◌==◌, ◌&&◌, ◌||◌, ◌≤◌, Bool, true, false, not, nat_le, nat_lt, codes, option_map, length, get_or, ◌<◌, All, AllPairs, Option, Some, None, List, [], ◌∷◌, ◌++◌, refl, sym, ◌∙◌, subst, arith, inl, inr}
use Rattle.std.proofs.lemmas.Bool.{and_parts, cases_Bool, eqb-true, leb-true}
use Rattle.std.proofs.lemmas.List.Elements.{All-nil, All-cons, All-push}
use Rattle.std.proofs.lemmas.List.Kept.{AllPairs-cons}
use Rattle.std.specs.List.{list_any}
use Rattle.dom_base.specs.AddrOrder.{rank}
use Rattle.plant_laws.specs.plant_model.Types.{Addr, ParentLink, Link, As, NetworkParts, PeerRow}
use Rattle.dom_base.specs.declared.addr.Addr.TheVariants.{V4, V6}
use Rattle.pcep_subobjects.specs.Addresses.{bits_of}
use Rattle.te_links.specs.Rows.{IsMetric}
use Rattle.plant_text.specs.declared.fault.Breach.{Breach}
use Rattle.plant_text.specs.declared.fault.Breach.TheVariants.{TooMany, Shape, Duplicate}
use Rattle.plant_text.specs.Faults.{first_of}
use Rattle.plant_text.specs.Laws.{AreSettings}
use Rattle.plant_text.specs.Names.{parent_as, same_as, same_link}
use Rattle.plant_text.specs.Networks.{path_client, with_path}
use Rattle.plant_text.specs.Reads.{Reads}
use Rattle.plant_text.specs.Rules.{Rules, at_row, is_domain, is_link, is_metric, is_v4, parent_link_rules, rows_from, rules, rules_of, sheet_of, told}
use Rattle.plant_text.specs.Settings.{is_element as has_element}
use Rattle.plant_text.specs.SettingsText.{sheet_in}
use Rattle.plant_text.proofs.RuleLaws.{first_at_row, none_back, none_front, none_of, obeyed_of}
use Rattle.plant_text.proofs.SettingLaws.{rules_are_worth}
use Rattle.plant_text.proofs.SheetLaws.{all_clear, settings_clear}
use Rattle.plant_laws.specs.plant_model.Laws.{IsIpv4Link, IsNetwork, LeadApart, LeadsOut}
use Rattle.run_laws.proofs.TextLemmas.FieldRanges.{IsElementInRange, IsParentLinkInRange, elements_in_range, parent_links_in_range}

-- ---- domains and links

-- a domain that is not the parent has a number
real_number : (n : ℕ) (a : As) → a ≢ parent_as → a.0 ≡ n → 1 ≤ n
real_number zero a other is = absurd (other (number_is is))
  where
    number_is : a.0 ≡ 0 → a ≡ parent_as
    number_is e = let P : ℕ → Type 0 = λ n. a ≡ record { 0 = n } in subst P e refl
real_number (suc n) a other is = omega arith

same_self : (a : As) → same_as a a ≡ true
same_self a = grind arith

straight : (a b : As) → same_link a b a b ≡ true
straight a b = rw (same_self a) (same_self b)

turned : (a b : As) → same_link a b b a ≡ true
turned a b =
    elim (cases_Bool (same_as a b)) [
      | inl t ↦ rw t (back (eqb-true a.0 b.0 t))
      | inr f ↦ rw (f, same_self a) (same_self b)
    ]
  where
    back : a.0 ≡ b.0 → (b.0 == a.0) ≡ true
    back e = rw e (same_self b)

not_both : (b : Bool) → b ≡ true → b ≡ false → ⊥
not_both b holds fails = let never : true ≡ false = sym holds ∙ fails in cc

links_differ : (p q : As × As) → same_link p.0 p.1 q.0 q.1 ≡ false → ((p.0 ≡ q.0) × (p.1 ≡ q.1) → ⊥) × ((p.0 ≡ q.1) × (p.1 ≡ q.0) → ⊥)
links_differ p q other = (λ same. as_given p.0 p.1 q.0 q.1 other same.0 same.1, λ same. as_turned p.0 p.1 q.0 q.1 other same.0 same.1)
  where
    as_given : (a b c d : As) → same_link a b c d ≡ false → a ≡ c → b ≡ d → ⊥
    as_given a b c d apart ac bd =
        let near : same_link a b a d ≡ false = subst (λ (x : As). same_link a b x d ≡ false) (sym ac) apart in
        not_both (same_link a b a b) (straight a b) (subst (λ (x : As). same_link a b a x ≡ false) (sym bd) near)

    as_turned : (a b c d : As) → same_link a b c d ≡ false → a ≡ d → b ≡ c → ⊥
    as_turned a b c d apart ad bc =
        let near : same_link a b b d ≡ false = subst (λ (x : As). same_link a b x d ≡ false) (sym bc) apart in
        not_both (same_link a b b a) (turned a b) (subst (λ (x : As). same_link a b b x ≡ false) (sym ad) near)

-- ---- the links of the parent

none_mapped : {A B : Type 0} (f : A → B) (o : Option A) → option_map f o ≡ None → o ≡ None
none_mapped f None none = refl
none_mapped f (Some x) none = absurd (cc)

tail_clear : {X : Type 0} (b : Bool) (x : X) (rs : Rules X) → first_of ((b, x) ∷ rs) ≡ None → first_of rs ≡ None
tail_clear true x rs none = absurd (let no : Some x ≡ None = none in cc)
tail_clear false x rs none = none

head_false : {X : Type 0} (b : Bool) (x : X) (rs : Rules X) → first_of ((b, x) ∷ rs) ≡ None → b ≡ false
head_false true x rs none = absurd (let no : Some x ≡ None = none in cc)
head_false false x rs none = refl

not_false : (b : Bool) → not b ≡ false → b ≡ true
not_false true e = refl
not_false false e = absurd (let no : true ≡ false = e in cc)

metric_is : (k : ℕ) → is_metric k ≡ true → IsMetric k
metric_is k is = let (least, most) = and_parts (nat_le 1 k) (nat_le k 16777215) is in (leb-true 1 k least, leb-true k 16777215 most)

short_is : (a : Addr) → is_v4 a ≡ true → bits_of a ≡ 32
short_is (V4 n) is = refl
short_is (V6 n) is = absurd (let no : false ≡ true = is in cc)

-- what the rules say of such a link
record IsFormed (k : Link) : Type 0 where
  ipv4 : IsIpv4Link k
  igp : IsMetric k.igp
  te : IsMetric k.te

formed_of : (k : Link) → is_link k ≡ true → IsFormed k
formed_of k is =
    let ends : Bool = (is_v4 k.from && is_v4 k.to) && (is_v4 k.near && is_v4 k.far) in
    let two = and_parts (ends && is_metric k.igp) (is_metric k.te) is in
    let one = and_parts ends (is_metric k.igp) two.0 in
    let four = and_parts (is_v4 k.from && is_v4 k.to) (is_v4 k.near && is_v4 k.far) one.0 in
    let nodes = and_parts (is_v4 k.from) (is_v4 k.to) four.0 in
    let sides = and_parts (is_v4 k.near) (is_v4 k.far) four.1 in
    record {
      ipv4 = record { from = short_is k.from nodes.0; to = short_is k.to nodes.1; near = short_is k.near sides.0; far = short_is k.far sides.1 };
      igp = metric_is k.igp one.1;
      te = metric_is k.te two.1;
    }

abbrev HasForm : ParentLink → Type 0
HasForm l = IsFormed l.link

link_formed : (n : NetworkParts) (before : List ParentLink) (l : ParentLink) → first_of (parent_link_rules (sheet_of n) before l) ≡ None → HasForm l
link_formed n before l none =
    let k = l.link in
    let many : Bool = nat_lt 8 (length k.srlgs) in
    let formed : Bool = (is_domain l.from_as && is_domain l.to_as) && is_link k in
    let again : Bool = list_any (λ (p : ParentLink). (rank p.link.near == rank k.near) || (rank p.link.far == rank k.far)) before in
    let rest = tail_clear many TooMany ((not formed, Shape) ∷ (again, Duplicate) ∷ []) none in
    let form = not_false formed (head_false (not formed) Shape ((again, Duplicate) ∷ []) rest) in
    formed_of k (and_parts (is_domain l.from_as && is_domain l.to_as) (is_link k) form).1

rows_formed : (n : NetworkParts) (i : ℕ) (before rows : List ParentLink) → first_of (rows_from (codes "parent.link") 256 (parent_link_rules (sheet_of n)) i before rows) ≡ None → All HasForm rows
rows_formed n i before [] none = All-nil HasForm
rows_formed n i before (l ∷ rows) none =
    let name = codes "parent.link" in
    let asked = parent_link_rules (sheet_of n) in
    let here : Rules Breach = (nat_le 256 i, TooMany) ∷ asked before l in
    let others = rows_from name 256 asked (i + 1) (before ++ l ∷ []) rows in
    let first : first_of here ≡ None = none_mapped (told name i) (first_of here) (sym (first_at_row name i here) ∙ none_front (at_row name i here) others none) in
    All-cons HasForm l rows (link_formed n before l (tail_clear (nat_le 256 i) TooMany (asked before l) first))
    (rows_formed n (i + 1) (before ++ l ∷ []) rows (none_back (at_row name i here) others none))

links_formed : (n : NetworkParts) → first_of (rules_of n) ≡ None → All HasForm n.parent_links
links_formed n none =
    rows_formed n 0 [] n.parent_links
    (none_front (rows_from (codes "parent.link") 256 (parent_link_rules (sheet_of n)) 0 [] n.parent_links) [] (all_clear (sheet_of n) none).parent_links_clear)

-- ---- all

network_of : (n : NetworkParts) → AreSettings n → All IsElementInRange n.elements → All IsParentLinkInRange n.parent_links → All HasForm n.parent_links → IsNetwork n
network_of n are elements parent_links formed = record {
  elements_differ = λ i j d before within. (are.elements.numbers_differ i j d before within, are.elements.ids_differ i j d before within);
  elements = λ i d within. record {
    real = real_number (get_or n.elements i d).own.0 (get_or n.elements i d).own (are.elements.domains i d within) refl;
    own = (elements i d within).own;
    id = (elements i d within).id;
    life = (are.elements.lives i d within).0;
    life_most = (are.elements.lives i d within).1;
  };
  few = are.elements.few;
  has_parent = are.elements.children;
  links = λ i d within. ((are.links.known i d within).0, (are.links.known i d within).1, are.links.differ i d within);
  links_differ = λ i j d before within. links_differ (get_or n.links i d) (get_or n.links j d) (are.links.once i j d before within);
  peers = are.peers.known;
  downs = are.peers.downs;
  downs_differ = are.peers.downs_differ;
  few_parent_links = are.parent_links.few;
  parent_links = λ i d within. record {
    from_as = (parent_links i d within).from_as;
    to_as = (parent_links i d within).to_as;
    link = (parent_links i d within).link;
    ipv4 = (formed i d within).ipv4;
    igp = (formed i d within).igp;
    te = (formed i d within).te;
  };
  parent_links_differ = λ i j d before within. (are.parent_links.fars_differ i j d before within, are.parent_links.nears_differ i j d before within);
}

pub settings_are_modelled : (bytes : List ℕ) (n : NetworkParts) → Reads bytes n → IsNetwork n
settings_are_modelled bytes n r =
    let s = sheet_in r.root in
    let none = settings_clear s (none_of (rules s) r.obeyed) in
    subst IsNetwork (sym r.rows)
    (network_of s.parts (rules_are_worth s.parts (obeyed_of (rules_of s.parts) none)) (elements_in_range r.root) (parent_links_in_range r.root) (links_formed s.parts none))

-- a peer behind the others that paths do not go on through
pairs_push : (ps : List PeerRow) (last : PeerRow) → last.down ≡ false → AllPairs LeadApart ps → AllPairs LeadApart (ps ++ last ∷ [])
pairs_push [] last not_down all = λ i j d less below. absurd (omega (arith, less, below))
pairs_push (p ∷ ps) last not_down all =
    AllPairs-cons LeadApart p (ps ++ last ∷ [])
    (All-push (LeadApart p) ps last (λ k d below. all 0 (suc k) d (omega arith) (omega (arith, below))) (λ first second here same. (let clash : true ≡ false = sym second ∙ not_down in cc)))
    (pairs_push ps last not_down (λ i j d less below. all (suc i) (suc j) d (omega (arith, less)) (omega (arith, below))))

-- a network with one more client of an element
pub with_client : (n : NetworkParts) (at : As) → IsNetwork n → has_element n at ≡ true → IsNetwork (with_path n at)
with_client n at net known = record {
  elements_differ = net.elements_differ;
  elements = net.elements;
  few = net.few;
  has_parent = net.has_parent;
  links = net.links;
  links_differ = net.links_differ;
  peers = All-push (λ (p : PeerRow). has_element n p.at ≡ true) n.peers (path_client at) net.peers known;
  downs = All-push (LeadsOut n) n.peers (path_client at) net.downs (λ down. (let clash : false ≡ true = down in cc));
  downs_differ = pairs_push n.peers (path_client at) refl net.downs_differ;
  few_parent_links = net.few_parent_links;
  parent_links = net.parent_links;
  parent_links_differ = net.parent_links_differ;
}

pub client_is_modelled : (bytes : List ℕ) (n : NetworkParts) (at : As) → Reads bytes n → has_element n at ≡ true → IsNetwork (with_path n at)
client_is_modelled bytes n at r known = with_client n at (settings_are_modelled bytes n r) known
