-- The first of rules that is broken, rule by rule and row by row.
use Rattle.std.proofs.Common.{◌≡◌, ℕ, ◌+◌, ◌<◌, ◌≤◌, Bool, true, false, nat_le, length, take, drop, get_or, List, [], ◌∷◌, ◌++◌, Option, Some, None, option_map, unwrap_or, Result, Ok, Err, OnOk, refl, ◌∙◌, ap, subst, inl, inr, arith, length-drop}
use Rattle.std.proofs.lemmas.Bool.{cases_Bool, leb-false}
use Rattle.std.proofs.lemmas.List.{drop_more, take_more}
use Rattle.std.proofs.lemmas.List.Elements.{All-nil, All-cons, All-head, All-tail}
use Rattle.plant_text.specs.declared.fault.Breach.{Breach}
use Rattle.plant_text.specs.declared.fault.Breach.TheVariants.{TooMany}
use Rattle.plant_text.specs.declared.fault.NetFault.{NetFault}
use Rattle.plant_text.specs.Rules.{Rules, told, at_row, rows_from, cut_rules, table}
use Rattle.plant_text.specs.declared.fault.NetError.{NetError}
use Rattle.plant_text.specs.declared.fault.NetError.TheVariants.{Fault, NoMemory}
use Rattle.plant_text.specs.Faults.{AreObeyed, IsFirst, first_of, IsTold, Tells}

-- the rules of a row, under the names of their breaches
pub first_at_row : (table : List ℕ) (i : ℕ) (rs : Rules Breach) → first_of (at_row table i rs) ≡ option_map (told table i) (first_of rs)
first_at_row table i [] = refl
first_at_row table i (r ∷ rs) =
    elim (cases_Bool r.0) [
      | inl t ↦ rw t refl
      | inr f ↦ rw f (first_at_row table i rs)
    ]

-- what is broken in front stays the first
pub first_in_front : {X : Type 0} (a b : Rules X) (x : X) → first_of a ≡ Some x → first_of (a ++ b) ≡ Some x
first_in_front [] b x e = absurd (let no : None ≡ Some x = e in cc)
first_in_front (r ∷ rs) b x e =
    elim (cases_Bool r.0) [
      | inl t ↦ rw t (rw t at e)
      | inr f ↦ rw f (first_in_front rs b x (rw f at e))
    ]

-- where nothing is broken in front, the first is behind
pub first_behind : {X : Type 0} (a b : Rules X) → first_of a ≡ None → first_of (a ++ b) ≡ first_of b
first_behind [] b e = refl
first_behind (r ∷ rs) b e =
    elim (cases_Bool r.0) [
      | inl t ↦ absurd (let no : Some r.1 ≡ None = rw t at e in cc)
      | inr f ↦ rw f (first_behind rs b (rw f at e))
    ]

-- ---- rows

-- the rules of the rows from place i on
abbrev pub rules_on : {R : Type 0} → List ℕ → ℕ → (List R → R → Rules Breach) → List R → ℕ → Rules NetFault
rules_on table limit asked rows i = rows_from table limit asked i (take i rows) (drop i rows)

-- those of the row at place i, and of the rows behind it
rules_at : {R : Type 0} (table : List ℕ) (limit : ℕ) (asked : List R → R → Rules Breach) (rows : List R) (i : ℕ) (d : R) → i < length rows
    → rules_on table limit asked rows i ≡ at_row table i ((nat_le limit i, TooMany) ∷ asked (take i rows) (get_or rows i d)) ++ rules_on table limit asked rows (i + 1)
rules_at table limit asked rows i d inside = rw (drop_more rows i d inside, take_more rows i d inside) refl

-- at a row that breaks nothing, the next is asked
pub row_passes : {R : Type 0} (table : List ℕ) (limit : ℕ) (asked : List R → R → Rules Breach) (rows : List R) (i : ℕ) (d : R) → i < length rows → nat_le limit i ≡ false → first_of (asked (take i rows) (get_or rows i d)) ≡ None
    → first_of (rules_on table limit asked rows i) ≡ first_of (rules_on table limit asked rows (i + 1))
row_passes table limit asked rows i d inside few none =
    rw (rules_at table limit asked rows i d inside, few)
    (first_behind (at_row table i (asked (take i rows) (get_or rows i d))) (rules_on table limit asked rows (i + 1))
    (first_at_row table i (asked (take i rows) (get_or rows i d)) ∙ rw none refl))

-- a row that breaks a rule
pub row_breaks : {R : Type 0} (table : List ℕ) (limit : ℕ) (asked : List R → R → Rules Breach) (rows : List R) (i : ℕ) (d : R) (wrong : Breach) → i < length rows → nat_le limit i ≡ false → first_of (asked (take i rows) (get_or rows i d)) ≡ Some wrong
    → first_of (rules_on table limit asked rows i) ≡ Some (told table i wrong)
row_breaks table limit asked rows i d wrong inside few broken =
    rw (rules_at table limit asked rows i d inside, few)
    (first_in_front (at_row table i (asked (take i rows) (get_or rows i d))) (rules_on table limit asked rows (i + 1)) (told table i wrong)
    (first_at_row table i (asked (take i rows) (get_or rows i d)) ∙ rw broken refl))

past : {R : Type 0} (table : List ℕ) (limit : ℕ) (asked : List R → R → Rules Breach) (i : ℕ) (before rows : List R) → 0 < length rows → nat_le limit i ≡ true
    → first_of (rows_from table limit asked i before rows) ≡ Some (told table i TooMany)
past table limit asked i before [] some many = absurd (omega arith)
past table limit asked i before (row ∷ rows) some many = rw many refl

-- a row past the limit
pub row_past : {R : Type 0} (table : List ℕ) (limit : ℕ) (asked : List R → R → Rules Breach) (rows : List R) (i : ℕ) → i < length rows → nat_le limit i ≡ true
    → first_of (rules_on table limit asked rows i) ≡ Some (told table i TooMany)
row_past table limit asked rows i inside many = past table limit asked i (take i rows) (drop i rows) (rw (length-drop i rows) (omega arith)) many

-- ---- what is told

pub none_of_both : {X : Type 0} (a b : Rules X) → first_of a ≡ None → first_of b ≡ None → first_of (a ++ b) ≡ None
none_of_both a b na nb = first_behind a b na ∙ nb

pub told_in_front : (a b : Rules NetFault) (e : NetError) → IsTold (first_of a) e → IsTold (first_of (a ++ b)) e
told_in_front a b (Fault f) is = first_in_front a b f is
told_in_front a b NoMemory is = tt

pub told_behind : (a b : Rules NetFault) (e : NetError) → first_of a ≡ None → IsTold (first_of b) e → IsTold (first_of (a ++ b)) e
told_behind a b e none is = rw (first_behind a b none) is

pub tells_behind : {A : Type 0} (a b : Rules NetFault) (r : Result A NetError) → first_of a ≡ None → Tells b r → Tells (a ++ b) r
tells_behind a b (Ok x) none is = none_of_both a b none is
tells_behind a b (Err e) none is = told_behind a b e none is

-- ---- the relation

pub obeyed_of : {X : Type 0} (rs : Rules X) → first_of rs ≡ None → AreObeyed rs
obeyed_of [] none = All-nil (λ rule. rule.0 ≡ false)
obeyed_of (r ∷ rs) none =
    elim (cases_Bool r.0) [
      | inl t ↦ absurd (let no : Some r.1 ≡ None = rw t at none in cc)
      | inr f ↦ All-cons (λ rule. rule.0 ≡ false) r rs f (obeyed_of rs (rw f at none))
    ]

pub none_of : {X : Type 0} (rs : Rules X) → AreObeyed rs → first_of rs ≡ None
none_of [] obeyed = refl
none_of (r ∷ rs) obeyed = rw (All-head (λ rule. rule.0 ≡ false) r rs obeyed) (none_of rs (All-tail (λ rule. rule.0 ≡ false) r rs obeyed))

further : {X : Type 0} (r : Bool × X) (rs : Rules X) (x : X) → r.0 ≡ false → IsFirst rs x → IsFirst (r ∷ rs) x
further r rs x f is = record { passed = r ∷ is.passed; others = is.others; place = ap (λ l. r ∷ l) is.place; before = All-cons (λ rule. rule.0 ≡ false) r is.passed f is.before }

here : {X : Type 0} (b : Bool) (y x : X) (rs : Rules X) → b ≡ true → Some y ≡ Some x → IsFirst ((b, y) ∷ rs) x
here b y x rs t same =
    record { passed = []; others = rs; place = rw (t, ap (λ o. unwrap_or o y) same) refl; before = All-nil (λ rule. rule.0 ≡ false) }

pub is_first_of : {X : Type 0} (rs : Rules X) (x : X) → first_of rs ≡ Some x → IsFirst rs x
is_first_of [] x is = absurd (let no : None ≡ Some x = is in cc)
is_first_of (r ∷ rs) x is =
    elim (cases_Bool r.0) [
      | inl t ↦ here r.0 r.1 x rs t (rw t at is)
      | inr f ↦ further r rs x f (is_first_of rs x (rw f at is))
    ]

pub obeyed_if : {A : Type 0} (rs : Rules NetFault) (r : Result A NetError) → Tells rs r → OnOk r (AreObeyed rs)
obeyed_if rs (Ok a) tells = obeyed_of rs tells
obeyed_if rs (Err e) tells = tt

pub refused_if : {A : Type 0} (rs : Rules NetFault) (r : Result A NetError) → Tells rs r → (fault : NetFault) → r ≡ Err (Fault fault) → IsFirst rs fault
refused_if {A} rs r tells fault is =
    let P : Result A NetError → Type 0 = λ r'. Tells rs r' in
    is_first_of rs fault (subst P is tells)

-- ---- parts of rules that are not broken

pub none_front : {X : Type 0} (a b : Rules X) → first_of (a ++ b) ≡ None → first_of a ≡ None
none_front [] b none = refl
none_front (r ∷ rs) b none =
    elim (cases_Bool r.0) [
      | inl t ↦ absurd (let no : Some r.1 ≡ None = rw t at none in cc)
      | inr f ↦ rw f (none_front rs b (rw f at none))
    ]

pub none_back : {X : Type 0} (a b : Rules X) → first_of (a ++ b) ≡ None → first_of b ≡ None
none_back [] b none = none
none_back (r ∷ rs) b none =
    elim (cases_Bool r.0) [
      | inl t ↦ absurd (let no : Some r.1 ≡ None = rw t at none in cc)
      | inr f ↦ none_back rs b (rw f at none)
    ]

-- a row behind those of a table is out of form
cut_breaks : (name : List ℕ) (limit i : ℕ) (wrong : Breach) → first_of (cut_rules name limit i (Some wrong)) ≡ None → ⊥
cut_breaks name limit i wrong none =
    elim (cases_Bool (nat_le limit i)) [
      | inl t ↦ let no : Some (told name i TooMany) ≡ None = rw t at none in cc
      | inr f ↦ let no : Some (told name i wrong) ≡ None = rw f at none in cc
    ]

no_cut_at : (name : List ℕ) (limit i : ℕ) (cut : Option Breach) → first_of (cut_rules name limit i cut) ≡ None → cut ≡ None
no_cut_at name limit i None none = refl
no_cut_at name limit i (Some wrong) none = absurd (cut_breaks name limit i wrong none)

pub no_cut : {R : Type 0} (name : List ℕ) (limit : ℕ) (asked : List R → R → Rules Breach) (rows : List R) (cut : Option Breach) → first_of (table name limit asked rows cut) ≡ None → cut ≡ None
no_cut name limit asked rows cut none = no_cut_at name limit (length rows) cut (none_back (rows_from name limit asked 0 [] rows) (cut_rules name limit (length rows) cut) none)

-- no more rows than the limit
rows_few : {R : Type 0} (name : List ℕ) (limit : ℕ) (asked : List R → R → Rules Breach) (i : ℕ) (before rows : List R) → i ≤ limit → first_of (rows_from name limit asked i before rows) ≡ None → i + length rows ≤ limit
rows_few name limit asked i before [] within none = omega arith
rows_few name limit asked i before (row ∷ rows) within none =
    elim (cases_Bool (nat_le limit i)) [
      | inl t ↦ absurd (let no : Some (told name i TooMany) ≡ None = rw t at none in cc)
      | inr f ↦
          let below : i < limit = leb-false limit i f in
          let others = none_back (at_row name i (asked before row)) (rows_from name limit asked (i + 1) (before ++ row ∷ []) rows) (rw f at none) in
          let more = rows_few name limit asked (i + 1) (before ++ row ∷ []) rows (omega arith) others in
          omega arith
    ]

pub few_rows : {R : Type 0} (name : List ℕ) (limit : ℕ) (asked : List R → R → Rules Breach) (rows : List R) (cut : Option Breach) → first_of (table name limit asked rows cut) ≡ None → length rows ≤ limit
few_rows name limit asked rows cut none =
    let few = rows_few name limit asked 0 [] rows (omega arith) (none_front (rows_from name limit asked 0 [] rows) (cut_rules name limit (length rows) cut) none) in
    omega arith
