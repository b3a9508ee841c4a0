-- Rows in slots, found by their names.
use Rattle.std.proofs.Common.{◌≡◌, ℕ, suc, ◌<◌, ◌||◌, Bool, true, false, cond, Option, Some, None, option_map, List, [], ◌∷◌, ◌++◌, length, set, refl, sym, ◌∙◌, ap, inl, inr, arith}
use Rattle.std.specs.Option.{is_some}
use Rattle.std.specs.BTreeMap.{BTreeMap, get, is_at}
use Rattle.std.proofs.lemmas.Bool.{cases_Bool}
use Rattle.te_text.specs.declared.row.TextRow.{TextRow}
use Rattle.te_deltas.specs.declared.name.RowName.{RowName}
use Rattle.te_deltas.specs.contracts.name.RowNameOrd.TheImpl as derived
use Rattle.te_deltas.specs.Changes.{name_of, same_name, has_name, without}
use Rattle.te_deltas.specs.Slots.{live, place_in, DifferByName}
use Rattle.te_deltas.proofs.Names.{name_is, name_back, order_same}

-- ---- places

abbrev next : Option ℕ → Option ℕ
next o = option_map (λ i. suc i) o

abbrev IsNext : Option ℕ → ℕ → Type 0
IsNext o i = (j : ℕ) × (o ≡ Some j) × (i ≡ suc j)

from_next : (o : Option ℕ) (i : ℕ) → next o ≡ Some i → IsNext o i
from_next None i h = absurd (let no : None ≡ Some i = h in cc)
from_next (Some j) i h = (j, refl, (let same : Some (suc j) ≡ Some i = h in cc))

none_next : (o : Option ℕ) → next o ≡ None → o ≡ None
none_next None h = refl
none_next (Some j) h = absurd (let no : Some (suc j) ≡ None = h in cc)

some_next : (o : Option ℕ) → is_some (next o) ≡ is_some o
some_next None = refl
some_next (Some j) = refl

cond_next : (t : Bool) (a b : Option ℕ) → cond t (next a) (next b) ≡ next (cond t a b)
cond_next true a b = refl
cond_next false a b = refl

or_some : (t : Bool) (o : Option ℕ) → (t || is_some o) ≡ is_some (cond t (Some 0) (next o))
or_some true o = refl
or_some false o = sym (some_next o)

-- a name is there where it has a place
pub has_place : (name : RowName) (slots : List (Option TextRow)) → has_name name (live slots) ≡ is_some (place_in name slots)
has_place name [] = refl
has_place name (None ∷ slots) = has_place name slots ∙ sym (some_next (place_in name slots))
has_place name (Some row ∷ slots) =
    ap (λ (b : Bool). same_name name (name_of row) || b) (has_place name slots) ∙ or_some (same_name name (name_of row)) (place_in name slots)

none_of : (o : Option ℕ) → is_some o ≡ false → o ≡ None
none_of None h = refl
none_of (Some i) h = absurd (let no : true ≡ false = h in cc)

no_place : (name : RowName) (slots : List (Option TextRow)) → has_name name (live slots) ≡ false → place_in name slots ≡ None
no_place name slots h = none_of (place_in name slots) (sym (has_place name slots) ∙ h)

pub place_within : (name : RowName) (slots : List (Option TextRow)) (i : ℕ) → place_in name slots ≡ Some i → i < length slots
place_within name [] i at = absurd (let no : None ≡ Some i = at in cc)
place_within name (None ∷ slots) i at =
    let p = from_next (place_in name slots) i at in omega (arith, p.2, place_within name slots p.0 p.1)
place_within name (Some row ∷ slots) i at =
    elim (cases_Bool (same_name name (name_of row))) [
      | inl hit ↦ let same : Some 0 ≡ Some i = rw hit at at in let is : 0 ≡ i = cc in omega (arith, is)
      | inr miss ↦
          let later : next (place_in name slots) ≡ Some i = rw miss at at in
          let p = from_next (place_in name slots) i later in
          omega (arith, p.2, place_within name slots p.0 p.1)
    ]

-- ---- one more

pub live_push : (slots : List (Option TextRow)) (row : TextRow) → live (slots ++ Some row ∷ []) ≡ live slots ++ row ∷ []
live_push [] row = refl
live_push (None ∷ slots) row = live_push slots row
live_push (Some one ∷ slots) row = ap (λ r. one ∷ r) (live_push slots row)

place_push : (name : RowName) (slots : List (Option TextRow)) (row : TextRow) → place_in (name_of row) slots ≡ None →
    cond (same_name (name_of row) name) (Some (length slots)) (place_in name slots) ≡ place_in name (slots ++ Some row ∷ [])
place_push name [] row none = ap (λ (b : Bool). cond b (Some 0) None) (name_back (name_of row) name)
place_push name (None ∷ slots) row none =
    cond_next (same_name (name_of row) name) (Some (length slots)) (place_in name slots)
    ∙ ap next (place_push name slots row (none_next (place_in (name_of row) slots) none))
place_push name (Some one ∷ slots) row none =
    elim (cases_Bool (same_name (name_of row) (name_of one))) [
      | inl hit ↦ absurd (let no : Some 0 ≡ None = rw hit at none in cc)
      | inr miss ↦
          let rest : place_in (name_of row) slots ≡ None = none_next (place_in (name_of row) slots) (rw miss at none) in
          elim (cases_Bool (same_name name (name_of one))) [
            | inl here ↦
                let same : name ≡ name_of one = name_is name (name_of one) here in
                let apart : same_name (name_of row) name ≡ false = ap (λ (n : RowName). same_name (name_of row) n) same ∙ miss in
                rw (here, apart) refl
            | inr later ↦
                rw later
                (cond_next (same_name (name_of row) name) (Some (length slots)) (place_in name slots) ∙ ap next (place_push name slots row rest))
          ]
    ]

pub has_push : (name : RowName) (list : List TextRow) (row : TextRow) → has_name name list ≡ false → same_name name (name_of row) ≡ false → has_name name (list ++ row ∷ []) ≡ false
has_push name [] row none other = rw other refl
has_push name (one ∷ list) row none other =
    elim (cases_Bool (same_name name (name_of one))) [
      | inl hit ↦ absurd (let no : true ≡ false = rw hit at none in cc)
      | inr miss ↦ rw miss (has_push name list row (rw miss at none) other)
    ]

pub differ_push : (list : List TextRow) (row : TextRow) → DifferByName list → has_name (name_of row) list ≡ false → DifferByName (list ++ row ∷ [])
differ_push [] row differ none = (refl, tt)
differ_push (one ∷ list) row differ none =
    elim (cases_Bool (same_name (name_of row) (name_of one))) [
      | inl hit ↦ absurd (let no : true ≡ false = rw hit at none in cc)
      | inr miss ↦ (has_push (name_of one) list row differ.0 (name_back (name_of one) (name_of row) ∙ miss), differ_push list row differ.1 (rw miss at none))
    ]

-- ---- one less

pub without_none : (name : RowName) (list : List TextRow) → has_name name list ≡ false → without name list ≡ list
without_none name [] none = refl
without_none name (row ∷ list) none =
    elim (cases_Bool (same_name name (name_of row))) [
      | inl hit ↦ absurd (let no : true ≡ false = rw hit at none in cc)
      | inr miss ↦ rw miss (ap (λ r. row ∷ r) (without_none name list (rw miss at none)))
    ]

has_without : (other name : RowName) (list : List TextRow) → has_name other list ≡ false → has_name other (without name list) ≡ false
has_without other name [] none = refl
has_without other name (row ∷ list) none =
    elim (cases_Bool (same_name other (name_of row))) [
      | inl hit ↦ absurd (let no : true ≡ false = rw hit at none in cc)
      | inr miss ↦
          let rest = has_without other name list (rw miss at none) in
          elim (cases_Bool (same_name name (name_of row))) [
            | inl gone ↦ rw gone rest
            | inr stays ↦ rw stays (rw miss rest)
          ]
    ]

pub differ_without : (name : RowName) (list : List TextRow) → DifferByName list → DifferByName (without name list)
differ_without name [] differ = tt
differ_without name (row ∷ list) differ =
    elim (cases_Bool (same_name name (name_of row))) [
      | inl gone ↦ rw gone (differ_without name list differ.1)
      | inr stays ↦ rw stays (has_without (name_of row) name list differ.0, differ_without name list differ.1)
    ]

pub live_clear : (name : RowName) (slots : List (Option TextRow)) (i : ℕ) → DifferByName (live slots) → place_in name slots ≡ Some i → live (set slots i None) ≡ without name (live slots)
live_clear name [] i differ at = absurd (let no : None ≡ Some i = at in cc)
live_clear name (None ∷ slots) i differ at =
    let p = from_next (place_in name slots) i at in
    ap (λ (k : ℕ). live (set (None ∷ slots) k None)) p.2 ∙ live_clear name slots p.0 differ p.1
live_clear name (Some row ∷ slots) i differ at =
    elim (cases_Bool (same_name name (name_of row))) [
      | inl hit ↦
          let same : Some 0 ≡ Some i = rw hit at at in
          let first : i ≡ 0 = cc in
          let none : has_name name (live slots) ≡ false = ap (λ (n : RowName). has_name n (live slots)) (name_is name (name_of row) hit) ∙ differ.0 in
          rw (hit, first) (sym (without_none name (live slots) none))
      | inr miss ↦
          let later : next (place_in name slots) ≡ Some i = rw miss at at in
          let p = from_next (place_in name slots) i later in
          rw (miss, p.2) (ap (λ r. row ∷ r) (live_clear name slots p.0 differ.1 p.1))
    ]

-- the first slot is emptied
cleared_first : (name other : RowName) (row : TextRow) (slots : List (Option TextRow)) → has_name (name_of row) (live slots) ≡ false → name ≡ name_of row →
    cond (same_name name other) None (place_in other (Some row ∷ slots)) ≡ next (place_in other slots)
cleared_first name other row slots differ one =
    elim (cases_Bool (same_name name other)) [
      | inl own ↦
          let two : other ≡ name_of row = sym (name_is name other own) ∙ one in
          rw own (sym (ap next (no_place other slots (ap (λ (n : RowName). has_name n (live slots)) two ∙ differ))))
      | inr apart ↦
          let miss : same_name other (name_of row) ≡ false = name_back other (name_of row) ∙ ap (λ (n : RowName). same_name n other) (sym one) ∙ apart in
          rw (apart, miss) refl
    ]

place_clear : (name other : RowName) (slots : List (Option TextRow)) (i : ℕ) → DifferByName (live slots) → place_in name slots ≡ Some i →
    cond (same_name name other) None (place_in other slots) ≡ place_in other (set slots i None)
place_clear name other [] i differ at = absurd (let no : None ≡ Some i = at in cc)
place_clear name other (None ∷ slots) i differ at =
    let p = from_next (place_in name slots) i at in
    cond_next (same_name name other) None (place_in other slots) ∙ ap next (place_clear name other slots p.0 differ p.1)
    ∙ ap (λ (k : ℕ). place_in other (set (None ∷ slots) k None)) (sym p.2)
place_clear name other (Some row ∷ slots) i differ at =
    elim (cases_Bool (same_name name (name_of row))) [
      | inl hit ↦
          let same : Some 0 ≡ Some i = rw hit at at in
          let zero_is : i ≡ 0 = cc in
          rw zero_is (cleared_first name other row slots differ.0 (name_is name (name_of row) hit))
      | inr miss ↦
          let later : next (place_in name slots) ≡ Some i = rw miss at at in
          let p = from_next (place_in name slots) i later in
          let rest = place_clear name other slots p.0 differ.1 p.1 in
          rw p.2
          (elim (cases_Bool (same_name other (name_of row))) [
            | inl here ↦
                let apart : same_name name other ≡ false = ap (λ (n : RowName). same_name name n) (name_is other (name_of row) here) ∙ miss in
                rw (apart, here) refl
            | inr there ↦ rw there (cond_next (same_name name other) None (place_in other slots) ∙ ap next rest)
          ])
    ]

-- ---- the map of places

abbrev pub at : BTreeMap RowName ℕ → RowName → Option ℕ
at m name = get derived.cmp-value.it m name

abbrev pub Tells : BTreeMap RowName ℕ → List (Option TextRow) → Type 0
Tells m slots = (name : RowName) → at m name ≡ place_in name slots

-- whether a name is there
pub there : (m : BTreeMap RowName ℕ) (slots : List (Option TextRow)) (list : List TextRow) (name other : RowName) (b : Bool) → Tells m slots → live slots ≡ list → name ≡ other → b ≡ is_some (at m name) → has_name other list ≡ b
there m slots list name other b tells is same told =
    ap (λ (l : List TextRow). has_name other l) (sym is) ∙ ap (λ (n : RowName). has_name n (live slots)) (sym same) ∙ has_place name slots ∙ ap is_some (sym (tells name)) ∙ sym told

pub tells_pushed : (m n : BTreeMap RowName ℕ) (slots mid after : List (Option TextRow)) (row : TextRow) (name : RowName) (place : ℕ) → Tells m slots → name ≡ name_of row → has_name (name_of row) (live slots) ≡ false →
    ((q : RowName) → at n q ≡ cond (is_at (derived.cmp-value.it name) q) (Some place) (at m q)) → place ≡ length slots → mid ≡ slots → after ≡ mid ++ Some row ∷ [] → Tells n after
tells_pushed m n slots mid after row name place tells is none updates last same pushed q =
    updates q
    ∙ ap (λ (b : Bool). cond b (Some place) (at m q)) (order_same name q)
    ∙ ap (λ (k : RowName). cond (same_name k q) (Some place) (at m q)) is
    ∙ ap (λ (k : ℕ). cond (same_name (name_of row) q) (Some k) (at m q)) last
    ∙ ap (cond (same_name (name_of row) q) (Some (length slots))) (tells q)
    ∙ place_push q slots row (no_place (name_of row) slots none)
    ∙ ap (λ (s : List (Option TextRow)). place_in q (s ++ Some row ∷ [])) (sym same)
    ∙ ap (place_in q) (sym pushed)

pub tells_cleared : (m n : BTreeMap RowName ℕ) (slots after : List (Option TextRow)) (name : RowName) (place : ℕ) → Tells m slots → DifferByName (live slots) → Some place ≡ at m name →
    ((q : RowName) → at n q ≡ cond (is_at (derived.cmp-value.it name) q) None (at m q)) → after ≡ set slots place None → Tells n after
tells_cleared m n slots after name place tells differ found updates cleared q =
    updates q
    ∙ ap (λ (b : Bool). cond b None (at m q)) (order_same name q)
    ∙ ap (cond (same_name name q) None) (tells q)
    ∙ place_clear name q slots place differ (sym (tells name) ∙ sym found)
    ∙ ap (place_in q) (sym cleared)
