-- What the settings of a network say of lives, of how many elements there are, and of the links of the parent.
use Rattle.std.proofs.Common.{◌≡◌, ◌≤◌, ◌+◌, ◌==◌, ◌&&◌, ◌||◌, ℕ, Bool, true, false, not, nat_le, nat_lt, codes, option_map, length, take, All, Option, Some, None, List, [], ◌∷◌, ◌++◌, cond, arith, refl, sym, ◌∙◌}
use Rattle.std.proofs.lemmas.Bool.{and_parts, leb-true}
use Rattle.std.proofs.lemmas.List.Elements.{All-nil, All-cons, All-head, All-tail}
use Rattle.std.specs.List.{list_any}
use Rattle.dom_base.specs.AddrOrder.{rank}
use Rattle.pce_common.specs.plant_model.Types.{As, ParentLink, NetworkParts, ElementRow}
use Rattle.plant_text.specs.declared.fault.Breach.{Breach}
use Rattle.plant_text.specs.declared.fault.Breach.TheVariants.{TooMany, Shape, Duplicate}
use Rattle.plant_text.specs.Faults.{first_of}
use Rattle.plant_text.specs.Laws.{AreSettings}
use Rattle.plant_text.specs.Names.{same_as}
use Rattle.plant_text.specs.Networks.{ObeysRules, with_peers}
use Rattle.plant_text.specs.Rules.{Rules, at_row, told, rows_from, rules_of, sheet_of, parent_link_rules, is_domain, is_link, is_metric, is_v4}
use Rattle.plant_text.specs.Settings.{elements_of, life_from, row_of}
use Rattle.plant_text.proofs.RuleLaws.{first_at_row, none_of, none_front, none_back}
use Rattle.plant_text.proofs.SettingLaws.{rules_are_worth}
use Rattle.plant_text.proofs.SheetLaws.{all_clear}
use Rattle.pce_parent.specs.Solution.{IsWeighed}
use Rattle.network_members.specs.Fresh.{LivesFit}
use Rattle.network_members.proofs.RisingDomains.{few_domains}

pub settings_of : (n : NetworkParts) (net : ObeysRules n) → AreSettings (with_peers n (take net.given n.peers))
settings_of n net = rules_are_worth (with_peers n (take net.given n.peers)) net.obeyed

-- ---- elements

lives : (rows : List ElementRow) → All (λ (e : ElementRow). (1 ≤ e.key_life) × (e.key_life ≤ 3600)) rows → (d : As) → (1 ≤ life_from (row_of d rows)) × (life_from (row_of d rows) ≤ 3600)
lives [] all d = (omega arith, omega arith)
lives (r ∷ rows) all d = go (lives rows (All-tail (λ (e : ElementRow). (1 ≤ e.key_life) × (e.key_life ≤ 3600)) r rows all) d) (same_as r.own d)
  where
    go : (1 ≤ life_from (row_of d rows)) × (life_from (row_of d rows) ≤ 3600) → (b : Bool) → (1 ≤ life_from (cond b (Some r) (row_of d rows))) × (life_from (cond b (Some r) (row_of d rows)) ≤ 3600)
    go more true = All-head (λ (e : ElementRow). (1 ≤ e.key_life) × (e.key_life ≤ 3600)) r rows all
    go more false = more

pub lives_fit : (n : NetworkParts) → ObeysRules n → LivesFit n
lives_fit n net =
    let all = (settings_of n net).elements.lives in
    record { least = λ d. (lives n.elements all d).0; most = λ d. (lives n.elements all d).1 }

pub few_elements : (n : NetworkParts) → ObeysRules n → length (elements_of n.elements) ≤ 16
few_elements n net = let few : length n.elements ≤ 16 = (settings_of n net).elements.few in omega (arith, few, few_domains n.elements)

-- ---- the links of the parent

none_mapped : {A B : Type 0} (f : A → B) (o : Option A) → option_map f o ≡ None → o ≡ None
none_mapped f None none = refl
none_mapped f (Some x) none = absurd (some_none (f x) none)
  where
    some_none : {B : Type 0} (y : B) → Some y ≡ None → ⊥
    some_none y is = cc

tail_clear : {X : Type 0} (b : Bool) (x : X) (rs : Rules X) → first_of ((b, x) ∷ rs) ≡ None → first_of rs ≡ None
tail_clear true x rs none = absurd (let no : Some x ≡ None = none in cc)
tail_clear false x rs none = none

head_false : {X : Type 0} (b : Bool) (x : X) (rs : Rules X) → first_of ((b, x) ∷ rs) ≡ None → b ≡ false
head_false true x rs none = absurd (let no : Some x ≡ None = none in cc)
head_false false x rs none = refl

not_false : (b : Bool) → not b ≡ false → b ≡ true
not_false true e = refl
not_false false e = absurd (let no : true ≡ false = e in cc)

metric_is : (k : ℕ) → is_metric k ≡ true → (1 ≤ k) × (k ≤ 16777215)
metric_is k is = let (least, most) = and_parts (nat_le 1 k) (nat_le k 16777215) is in (leb-true 1 k least, leb-true k 16777215 most)

weighed_link : (n : NetworkParts) (before : List ParentLink) (l : ParentLink) → first_of (parent_link_rules (sheet_of n) before l) ≡ None → IsWeighed l
weighed_link n before l none =
    let k = l.link in
    let many : Bool = nat_lt 8 (length k.srlgs) in
    let formed : Bool = (is_domain l.from_as && is_domain l.to_as) && is_link k in
    let again : Bool = list_any (λ (p : ParentLink). (rank p.link.near == rank k.near) || (rank p.link.far == rank k.far)) before in
    let rest = tail_clear many TooMany ((not formed, Shape) ∷ (again, Duplicate) ∷ []) none in
    let form : ((is_domain l.from_as && is_domain l.to_as) && is_link k) ≡ true = not_false formed (head_false (not formed) Shape ((again, Duplicate) ∷ []) rest) in
    let two = and_parts (((is_v4 k.from && is_v4 k.to) && (is_v4 k.near && is_v4 k.far)) && is_metric k.igp) (is_metric k.te) (and_parts (is_domain l.from_as && is_domain l.to_as) (is_link k) form).1 in
    record {
      igp = metric_is k.igp (and_parts ((is_v4 k.from && is_v4 k.to) && (is_v4 k.near && is_v4 k.far)) (is_metric k.igp) two.0).1;
      te = metric_is k.te two.1;
    }

weighed_rows : (n : NetworkParts) (i : ℕ) (before rows : List ParentLink) → first_of (rows_from (codes "parent.link") 256 (parent_link_rules (sheet_of n)) i before rows) ≡ None → All IsWeighed rows
weighed_rows n i before [] none = All-nil IsWeighed
weighed_rows n i before (l ∷ rows) none =
    let name = codes "parent.link" in
    let asked = parent_link_rules (sheet_of n) in
    let here : Rules Breach = (nat_le 256 i, TooMany) ∷ asked before l in
    let others = rows_from name 256 asked (i + 1) (before ++ l ∷ []) rows in
    let first : first_of here ≡ None = none_mapped (told name i) (first_of here) (sym (first_at_row name i here) ∙ none_front (at_row name i here) others none) in
    All-cons IsWeighed l rows (weighed_link n before l (tail_clear (nat_le 256 i) TooMany (asked before l) first))
    (weighed_rows n (i + 1) (before ++ l ∷ []) rows (none_back (at_row name i here) others none))

pub weighed_links : (n : NetworkParts) → ObeysRules n → All IsWeighed n.parent_links
weighed_links n net =
    let m = with_peers n (take net.given n.peers) in
    let clear = all_clear (sheet_of m) (none_of (rules_of m) net.obeyed) in
    weighed_rows m 0 [] n.parent_links (none_front (rows_from (codes "parent.link") 256 (parent_link_rules (sheet_of m)) 0 [] n.parent_links) [] clear.parent_links_clear)
