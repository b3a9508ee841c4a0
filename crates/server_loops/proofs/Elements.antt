-- Entries of elements of the settings are few, and may be shown.
use Rattle.std.proofs.Common.{◌≡◌, ◌==◌, ◌≤◌, ℕ, Bool, true, false, cond, ◌||◌, eqb, eqb-true, eq-eqb, List, [], ◌∷◌, ◌++◌, map, length, All, append-nil, if◌then◌else◌, Option, Some, None, refl, sym, ap, subst, arith, true≢false}
use Rattle.std.specs.Option.{is_some}
use Rattle.std.proofs.lemmas.Bool.{ltb-true}
use Rattle.std.proofs.lemmas.List.{length-map}
use Rattle.std.specs.Set.{is_member}
use Rattle.std.proofs.lemmas.List.Elements.{All-push}
use Rattle.dom_base.specs.declared.names.As.{As}
use Rattle.plant_text.specs.declared.settings.ElementRow.{ElementRow}
use Rattle.plant_text.specs.declared.settings.NetworkParts.{NetworkParts}
use Rattle.plant_text.specs.Networks.{ObeysRules, with_peers}
use Rattle.plant_text.specs.Settings.{is_element, row_of}
use Rattle.plant_text.proofs.SettingLaws.{rules_are_worth}
use Rattle.ted_watch.specs.declared.shown.Shown.{Shown}
use Rattle.ted_watch.specs.Published.{IsAbove, MayFollow, as_count, generation_of, last_of}
use Rattle.ted_watch.proofs.Few.{few_among}
use Rattle.server_loops.specs.Operating.{AreOfElements, is_newer}

abbrev numbers : List ElementRow → List ℕ
numbers rows = map (λ (r : ElementRow). r.own.0) rows

-- an element is among the numbers of the rows
member_of : (rows : List ElementRow) (at : As) → is_some (row_of at rows) ≡ true → is_member eqb (numbers rows) at.0 ≡ true
member_of [] at is = absurd (true≢false (sym is))
member_of (r ∷ rows) at is = by (r.own.0 == at.0) refl is (member_of rows at)
  where
    by : (b : Bool) → (r.own.0 == at.0) ≡ b → is_some (cond b (Some r) (row_of at rows)) ≡ true → (is_some (row_of at rows) ≡ true → is_member eqb (numbers rows) at.0 ≡ true) → (eqb at.0 r.own.0 || is_member eqb (numbers rows) at.0) ≡ true
    by true e found rec = ap (λ (b : Bool). b || is_member eqb (numbers rows) at.0) (eq-eqb at.0 r.own.0 (sym (eqb-true r.own.0 at.0 e)))
    by false e found rec = or_true (eqb at.0 r.own.0) (is_member eqb (numbers rows) at.0) (rec found)
      where
        or_true : (a b : Bool) → b ≡ true → (a || b) ≡ true
        or_true true b e = refl
        or_true false b e = e

elements_few : (n : NetworkParts) → ObeysRules n → length n.elements ≤ 16
elements_few n is = (rules_are_worth (with_peers n _) is.obeyed).elements.few

-- one entry more of an element is of no AS too many
pub few_more : (n : NetworkParts) (list : List Shown) (s : Shown) → ObeysRules n → AreOfElements n list → is_element n s.at ≡ true → as_count (list ++ s ∷ []) ≤ 16
few_more n list s is all element =
    let every : All (λ (t : Shown). is_element n t.at ≡ true) (list ++ s ∷ []) = All-push (λ (t : Shown). is_element n t.at ≡ true) list s all element in
    let few = few_among (numbers n.elements) (list ++ s ∷ []) (λ k d lt. member_of n.elements _ (every k d lt)) in
    omega (arith, few, elements_few n is, length-map n.elements (λ (r : ElementRow). r.own.0))

abbrev generation_or : Option Shown → ℕ
generation_or None = 0
generation_or (Some s) = s.generation

above_of : (k : ℕ) (s : Shown) (o : Option Shown) → s.generation ≡ k → is_newer k (generation_of o) ≡ true → IsAbove s o
above_of k s None e newer = λ t is. absurd (cc is)
above_of k s (Some x) e newer = λ t is. omega (arith, ltb-true x.generation k newer, e, ap generation_or is)

-- an entry that is newer may be shown
pub may_follow : (list : List Shown) (s : Shown) → is_newer s.generation (generation_of (last_of s.at.0 list)) ≡ true → as_count (list ++ s ∷ []) ≤ 16 → MayFollow list s
may_follow list s newer few = record { above = above_of s.generation s (last_of s.at.0 list) refl newer; few = few }

-- entries of elements, and one more where it is newer
pub elements_more : (n : NetworkParts) (list : List Shown) (s : Shown) (newer : Bool) → AreOfElements n list → is_element n s.at ≡ true → AreOfElements n (list ++ (if newer then s ∷ [] else []))
elements_more n list s true all element = All-push (λ (t : Shown). is_element n t.at ≡ true) list s all element
elements_more n list s false all element = subst (λ (l : List Shown). AreOfElements n l) (sym (append-nil list)) all
