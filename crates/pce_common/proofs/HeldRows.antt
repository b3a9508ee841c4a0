-- Requests by their numbers and places, and what stays of them after one ends or is written.
use Rattle.std.proofs.Common.{◌≡◌, ◌⊎◌, ◌+◌, ◌<◌, ◌≤◌, ℕ, zero, suc, Bool, true, cond, Some, None, List, [], ◌∷◌, ◌++◌, length, nat_eq, arith, inl, inr, refl, sym, ◌∙◌, ap, subst}
use Rattle.std.specs.Prelude.{Contains, count_by, slice_get}
use Rattle.std.specs.Map.{lookup, remove_entry}
use Rattle.std.proofs.lemmas.Bool.{cases_Bool, eqb-true, eq-eqb, ne_eqb}
use Rattle.std.proofs.lemmas.List.Sums.{sum_by-cons}
use Rattle.std.proofs.lemmas.List.Elements.{Contains-append_left, Contains-append_right, Contains-append_cases, Contains-push, Contains-push_cases}
use Rattle.plant_model.specs.Types.{Held}
use Rattle.request_table.specs.Pending.{NumbersRise}
use Rattle.request_table.specs.Lends.{with_item}

-- ---- one of a list

pub first_in : {X : Type 0} (x : X) (xs : List X) → Contains (x ∷ xs) x
first_in x xs = Contains-append_left (x ∷ []) xs x (Contains-push [] x)

pub later_in : {X : Type 0} (x : X) (xs : List X) (y : X) → Contains xs y → Contains (x ∷ xs) y
later_in x xs y has = Contains-append_right (x ∷ []) xs y has

pub none_in : {X : Type 0} (y : X) → Contains [] y → ⊥
none_in y has = omega (arith, has.1)

pub in_cases : {X : Type 0} (x : X) (xs : List X) (y : X) → Contains (x ∷ xs) y → (x ≡ y) ⊎ Contains xs y
in_cases x xs y has = elim (Contains-append_cases (x ∷ []) xs y has) [
  | inl here ↦ elim (Contains-push_cases [] x y here) [ inl none ↦ absurd (none_in y none) | inr same ↦ inl same ]
  | inr there ↦ inr there
]

-- ---- counts

pub counted : {X : Type 0} (p : X → Bool) (x : X) (xs : List X) → count_by p (x ∷ xs) ≡ cond (p x) 1 0 + count_by p xs
counted p x xs = sum_by-cons (λ y. cond (p y) 1 0) x xs

pub counted_more : {X : Type 0} (p : X → Bool) (xs : List X) (x : X) → count_by p (xs ++ x ∷ []) ≡ count_by p xs + cond (p x) 1 0
counted_more p [] x = omega (arith, counted p x [])
counted_more p (y ∷ xs) x = omega (arith, counted p y (xs ++ x ∷ []), counted p y xs, counted_more p xs x)

pub counted_some : {X : Type 0} (p : X → Bool) (xs : List X) (x : X) → Contains xs x → p x ≡ true → 1 ≤ count_by p xs
counted_some p [] x has is = absurd (none_in x has)
counted_some p (y ∷ xs) x has is = elim (in_cases y xs x has) [
  | inl same ↦ subst (λ (n : ℕ). 1 ≤ n) (sym (counted p y xs)) (rw (ap p same ∙ is) (omega arith))
  | inr there ↦ subst (λ (n : ℕ). 1 ≤ n) (sym (counted p y xs)) (omega (arith, counted_some p xs x there is))
]

-- ---- by number

-- a request with its number
abbrev pub Numbered : Type 0 → Type 0
Numbered T = ℕ × Held T

pub found_in : {T : Type 0} (number : ℕ) (rows : List (Numbered T)) (held : Held T) → lookup (nat_eq number) rows ≡ Some held → Contains rows (number, held)
found_in {T} number [] held found = absurd (let no : None ≡ Some held = found in cc)
found_in {T} number (row ∷ rows) held found =
    elim (cases_Bool (nat_eq number row.0)) [
      | inl hit ↦
          let same : Some row.1 ≡ Some held = rw hit at found in
          let is : row.1 ≡ held = cc in
          let number_is : number ≡ row.0 = eqb-true number row.0 hit in
          subst (λ (r : Numbered T). Contains (row ∷ rows) r) (ap (λ (n : ℕ). (n, row.1)) (sym number_is) ∙ ap (λ (h : Held T). (number, h)) is) (first_in row rows)
      | inr miss ↦ later_in row rows (number, held) (found_in number rows held (rw miss at found))
    ]

pub above_low : {T : Type 0} (low high : ℕ) (rows : List (Numbered T)) (row : Numbered T) → NumbersRise low rows high → Contains rows row → low < row.0
above_low {T} low high [] row rises has = absurd (none_in row has)
above_low {T} low high (first ∷ rows) row rises has = elim (in_cases first rows row has) [
  | inl same ↦ let is : first.0 ≡ row.0 = ap (λ (r : Numbered T). r.0) same in omega (arith, rises.0, is)
  | inr there ↦ omega (arith, rises.0, above_low first.0 high rows row rises.1 there)
]

pub in_found : {T : Type 0} (low high : ℕ) (rows : List (Numbered T)) (row : Numbered T) → NumbersRise low rows high → Contains rows row → lookup (nat_eq row.0) rows ≡ Some row.1
in_found {T} low high [] row rises has = absurd (none_in row has)
in_found {T} low high (first ∷ rows) row rises has = elim (in_cases first rows row has) [
  | inl same ↦ rw (eq-eqb row.0 first.0 (ap (λ (r : Numbered T). r.0) (sym same))) (ap (λ (r : Numbered T). Some r.1) same)
  | inr there ↦
      rw (ne_eqb row.0 first.0 (λ is. omega (arith, is, above_low first.0 high rows row rises.1 there)))
      (in_found first.0 high rows row rises.1 there)
]

-- ---- one ends

pub removed_in : {T : Type 0} (test : ℕ → Bool) (rows : List (Numbered T)) (row : Numbered T) → Contains (remove_entry test rows) row → Contains rows row
removed_in {T} test [] row has = has
removed_in {T} test (first ∷ rows) row has =
    elim (cases_Bool (test first.0)) [
      | inl hit ↦ later_in first rows row (rw hit at has)
      | inr miss ↦
          let kept : Contains (first ∷ remove_entry test rows) row = rw miss at has in
          elim (in_cases first (remove_entry test rows) row kept) [
            | inl same ↦ subst (λ (r : Numbered T). Contains (first ∷ rows) r) same (first_in first rows)
            | inr there ↦ later_in first rows row (removed_in test rows row there)
          ]
    ]

pub counted_removed : {T : Type 0} (p : Held T → Bool) (number : ℕ) (rows : List (Numbered T)) (held : Held T) → lookup (nat_eq number) rows ≡ Some held →
    count_by (λ (r : Numbered T). p r.1) (remove_entry (nat_eq number) rows) + cond (p held) 1 0 ≡ count_by (λ (r : Numbered T). p r.1) rows
counted_removed {T} p number [] held found = absurd (let no : None ≡ Some held = found in cc)
counted_removed {T} p number (row ∷ rows) held found =
    elim (cases_Bool (nat_eq number row.0)) [
      | inl hit ↦
          let same : Some row.1 ≡ Some held = rw hit at found in
          let is : row.1 ≡ held = cc in
          let one : Held T → ℕ = λ h. cond (p h) 1 0 in
          let here : one row.1 ≡ one held = ap one is in
          rw hit (omega (arith, counted (λ (r : Numbered T). p r.1) row rows, here))
      | inr miss ↦
          let more = counted_removed p number rows held (rw miss at found) in
          rw miss (omega (arith, counted (λ (r : Numbered T). p r.1) row rows, counted (λ (r : Numbered T). p r.1) row (remove_entry (nat_eq number) rows), more))
    ]

pub length-removed : {T : Type 0} (number : ℕ) (rows : List (Numbered T)) (held : Held T) → lookup (nat_eq number) rows ≡ Some held → length (remove_entry (nat_eq number) rows) + 1 ≡ length rows
length-removed {T} number [] held found = absurd (let no : None ≡ Some held = found in cc)
length-removed {T} number (row ∷ rows) held found =
    elim (cases_Bool (nat_eq number row.0)) [
      | inl hit ↦ rw hit (omega arith)
      | inr miss ↦ rw miss (omega (arith, length-removed number rows held (rw miss at found)))
    ]

pub none_removed : {T : Type 0} (number : ℕ) (rows : List (Numbered T)) → lookup (nat_eq number) rows ≡ None → remove_entry (nat_eq number) rows ≡ rows
none_removed {T} number [] none = refl
none_removed {T} number (row ∷ rows) none =
    elim (cases_Bool (nat_eq number row.0)) [
      | inl hit ↦ absurd (let no : Some row.1 ≡ None = rw hit at none in cc)
      | inr miss ↦ rw miss (ap (λ (rest : List (Numbered T)). row ∷ rest) (none_removed number rows (rw miss at none)))
    ]

-- ---- one is written

pub counted_written : {T : Type 0} (p : Held T → Bool) (number : ℕ) (item : T) (rows : List (Numbered T)) (held : Held T) → lookup (nat_eq number) rows ≡ Some held → p (record held { item = item }) ≡ p held →
    count_by (λ (r : Numbered T). p r.1) (with_item number item rows) ≡ count_by (λ (r : Numbered T). p r.1) rows
counted_written {T} p number item [] held found same = refl
counted_written {T} p number item (row ∷ rows) held found same =
    elim (cases_Bool (nat_eq number row.0)) [
      | inl hit ↦
          let one : Some row.1 ≡ Some held = rw hit at found in
          let is : row.1 ≡ held = cc in
          let written : Numbered T = (row.0, record row.1 { item = item }) in
          let here : p (record row.1 { item = item }) ≡ p row.1 = subst (λ (h : Held T). p (record h { item = item }) ≡ p h) (sym is) same in
          rw hit (counted (λ (r : Numbered T). p r.1) written rows ∙ ap (λ (b : Bool). cond b 1 0 + count_by (λ (r : Numbered T). p r.1) rows) here ∙ sym (counted (λ (r : Numbered T). p r.1) row rows))
      | inr miss ↦
          rw miss (counted (λ (r : Numbered T). p r.1) row (with_item number item rows)
          ∙ ap (λ (n : ℕ). cond (p row.1) 1 0 + n) (counted_written p number item rows held (rw miss at found) same) ∙ sym (counted (λ (r : Numbered T). p r.1) row rows))
    ]

-- a request after one is written is one of before, or the written one
pub written_in : {T : Type 0} (number : ℕ) (item : T) (rows : List (Numbered T)) (held : Held T) (row : Numbered T) → lookup (nat_eq number) rows ≡ Some held → Contains (with_item number item rows) row →
    Contains rows row ⊎ (row.1 ≡ record held { item = item })
written_in {T} number item [] held row found has = absurd (none_in row has)
written_in {T} number item (first ∷ rows) held row found has =
    elim (cases_Bool (nat_eq number first.0)) [
      | inl hit ↦
          let one : Some first.1 ≡ Some held = rw hit at found in
          let is : first.1 ≡ held = cc in
          let written : Numbered T = (first.0, record first.1 { item = item }) in
          let has' : Contains (written ∷ rows) row = rw hit at has in
          elim (in_cases written rows row has') [
            | inl same ↦ inr (ap (λ (r : Numbered T). r.1) (sym same) ∙ ap (λ (h : Held T). let w : Held T = record h { item = item } in w) is)
            | inr there ↦ inl (later_in first rows row there)
          ]
      | inr miss ↦
          let has' : Contains (first ∷ with_item number item rows) row = rw miss at has in
          elim (in_cases first (with_item number item rows) row has') [
            | inl same ↦ inl (subst (λ (r : Numbered T). Contains (first ∷ rows) r) same (first_in first rows))
            | inr there ↦ elim (written_in number item rows held row (rw miss at found) there) [
              | inl before ↦ inl (later_in first rows row before)
              | inr own ↦ inr own
            ]
          ]
    ]

pub length-written : {T : Type 0} (number : ℕ) (item : T) (rows : List (Numbered T)) → length (with_item number item rows) ≡ length rows
length-written {T} number item [] = refl
length-written {T} number item (row ∷ rows) =
    elim (cases_Bool (nat_eq number row.0)) [ inl hit ↦ rw hit refl | inr miss ↦ rw miss (omega (arith, length-written number item rows)) ]

-- ---- by place

pub at_in : {T : Type 0} (rows : List (Numbered T)) (k : ℕ) (row : Numbered T) → slice_get rows k ≡ Some row → Contains rows row
at_in {T} [] k row at = absurd (let no : None ≡ Some row = at in cc)
at_in {T} (first ∷ rows) zero row at = let same : Some first ≡ Some row = at in subst (λ (r : Numbered T). Contains (first ∷ rows) r) (let e : first ≡ row = cc in e) (first_in first rows)
at_in {T} (first ∷ rows) (suc k) row at = later_in first rows row (at_in rows k row at)

-- the row of a place, by its number
pub at_found : {T : Type 0} (low high : ℕ) (rows : List (Numbered T)) (k : ℕ) (row : Numbered T) → NumbersRise low rows high → slice_get rows k ≡ Some row → lookup (nat_eq row.0) rows ≡ Some row.1
at_found {T} low high rows k row rises at = in_found low high rows row rises (at_in rows k row at)
