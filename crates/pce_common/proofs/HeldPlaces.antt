-- Requests gone through by their places.
use Rattle.std.proofs.Common.{◌≡◌, ◌+◌, ◌≤◌, ℕ, zero, suc, Bool, cond, Some, None, List, [], ◌∷◌, ◌++◌, length, nat_eq, take, drop, arith, inl, inr, refl, sym, ◌∙◌, ap, subst}
use Rattle.std.specs.Prelude.{slice_get, filter, Contains}
use Rattle.std.specs.Map.{remove_entry}
use Rattle.std.proofs.lemmas.Bool.{cases_Bool, eq-eqb, ne_eqb}
use Rattle.request_table.specs.Pending.{NumbersRise}
use Rattle.pce_common.proofs.HeldRows.{Numbered, first_in, later_in, above_low, at_in}

-- a list round one of its places
pub split_at : {X : Type 0} (xs : List X) (k : ℕ) (x : X) → slice_get xs k ≡ Some x → xs ≡ take k xs ++ x ∷ drop (suc k) xs
split_at [] k x at = absurd (let no : None ≡ Some x = at in cc)
split_at (y ∷ xs) zero x at = let same : Some y ≡ Some x = at in ap (λ z. z ∷ xs) (let e : y ≡ x = cc in e)
split_at (y ∷ xs) (suc k) x at = ap (λ rest. y ∷ rest) (split_at xs k x at)

pub dropped_at : {X : Type 0} (xs : List X) (k : ℕ) (x : X) → slice_get xs k ≡ Some x → drop k xs ≡ x ∷ drop (suc k) xs
dropped_at [] k x at = absurd (let no : None ≡ Some x = at in cc)
dropped_at (y ∷ xs) zero x at = let same : Some y ≡ Some x = at in ap (λ z. z ∷ xs) (let e : y ≡ x = cc in e)
dropped_at (y ∷ xs) (suc k) x at = dropped_at xs k x at

pub taken_at : {X : Type 0} (xs : List X) (k : ℕ) (x : X) → slice_get xs k ≡ Some x → take (suc k) xs ≡ take k xs ++ x ∷ []
taken_at [] k x at = absurd (let no : None ≡ Some x = at in cc)
taken_at (y ∷ xs) zero x at = let same : Some y ≡ Some x = at in ap (λ z. z ∷ []) (let e : y ≡ x = cc in e)
taken_at (y ∷ xs) (suc k) x at = ap (λ rest. y ∷ rest) (taken_at xs k x at)

pub nothing_dropped : {X : Type 0} (xs : List X) (k : ℕ) → length xs ≤ k → drop k xs ≡ []
nothing_dropped [] zero past = refl
nothing_dropped [] (suc k) past = refl
nothing_dropped (x ∷ xs) zero past = absurd (omega (arith, past))
nothing_dropped (x ∷ xs) (suc k) past = nothing_dropped xs k (omega (arith, past))

pub all_taken : {X : Type 0} (xs : List X) (k : ℕ) → length xs ≤ k → take k xs ≡ xs
all_taken [] zero past = refl
all_taken [] (suc k) past = refl
all_taken (x ∷ xs) zero past = absurd (omega (arith, past))
all_taken (x ∷ xs) (suc k) past = ap (λ rest. x ∷ rest) (all_taken xs k (omega (arith, past)))

-- what was kept so far, and what is left
pub kept_place : {X : Type 0} (kept left : List X) (x : X) → slice_get (kept ++ x ∷ left) (length kept) ≡ Some x
kept_place [] left x = refl
kept_place (y ∷ kept) left x = kept_place kept left x

pub kept_taken : {X : Type 0} (kept left : List X) → take (length kept) (kept ++ left) ≡ kept
kept_taken [] [] = refl
kept_taken [] (x ∷ left) = refl
kept_taken (y ∷ kept) left = ap (λ rest. y ∷ rest) (kept_taken kept left)

pub kept_dropped : {X : Type 0} (kept left : List X) (x : X) → drop (suc (length kept)) (kept ++ x ∷ left) ≡ left
kept_dropped [] left x = refl
kept_dropped (y ∷ kept) left x = kept_dropped kept left x

-- a request that ends, by its place
pub removed_at : {T : Type 0} (low high : ℕ) (rows : List (Numbered T)) (k : ℕ) (row : Numbered T) → NumbersRise low rows high → slice_get rows k ≡ Some row →
    remove_entry (nat_eq row.0) rows ≡ take k rows ++ drop (suc k) rows
removed_at low high [] k row rises at = absurd (let no : None ≡ Some row = at in cc)
removed_at {T} low high (first ∷ rows) zero row rises at =
    let same : Some first ≡ Some row = at in
    let is : first ≡ row = cc in
    rw (eq-eqb row.0 first.0 (ap (λ (r : Numbered T). r.0) (sym is))) refl
removed_at {T} low high (first ∷ rows) (suc k) row rises at =
    rw (ne_eqb row.0 first.0 (λ same. omega (arith, same, above_low first.0 high rows row rises.1 (at_in rows k row at))))
    (ap (λ rest. first ∷ rest) (removed_at first.0 high rows k row rises.1 at))

-- ---- a list whose elements are kept or not, one by one

pub kept_step : {X : Type 0} (p : X → Bool) (xs rows after : List X) (i k : ℕ) (x y : X) → rows ≡ filter p (take i xs) ++ drop i xs → k ≡ length (filter p (take i xs)) → slice_get xs i ≡ Some x → slice_get rows k ≡ Some y →
    after ≡ take k rows ++ cond (p y) (y ∷ []) [] ++ drop (suc k) rows → (x ≡ y) × (after ≡ filter p (take (suc i) xs) ++ drop (suc i) xs)
kept_step {X} p xs rows after i k x y are place at_x at_y is = (same, result)
  where
    kept : List X
    kept = filter p (take i xs)

    left : List X
    left = drop (suc i) xs

    rows_are : rows ≡ kept ++ x ∷ left
    rows_are = are ∙ ap (λ (ys : List X). kept ++ ys) (dropped_at xs i x at_x)

    here : slice_get rows k ≡ Some x
    here = ap (λ (ys : List X). slice_get ys k) rows_are ∙ ap (λ (j : ℕ). slice_get (kept ++ x ∷ left) j) place ∙ kept_place kept left x

    same : x ≡ y
    same = let e : Some x ≡ Some y = sym here ∙ at_y in cc

    before : take k rows ≡ kept
    before = ap (λ (ys : List X). take k ys) rows_are ∙ ap (λ (j : ℕ). take j (kept ++ x ∷ left)) place ∙ kept_taken kept (x ∷ left)

    behind : drop (suc k) rows ≡ left
    behind = ap (λ (ys : List X). drop (suc k) ys) rows_are ∙ ap (λ (j : ℕ). drop (suc j) (kept ++ x ∷ left)) place ∙ kept_dropped kept left x

    filtered : (ys : List X) (z : X) → filter p (ys ++ z ∷ []) ≡ filter p ys ++ cond (p z) (z ∷ []) []
    filtered [] z = refl
    filtered (w ∷ ys) z = elim (cases_Bool (p w)) [
      | inl yes' ↦ rw yes' (ap (λ (rest : List X). w ∷ rest) (filtered ys z))
      | inr no' ↦ rw no' (filtered ys z)
    ]

    more : filter p (take (suc i) xs) ≡ kept ++ cond (p x) (x ∷ []) []
    more = ap (filter p) (taken_at xs i x at_x) ∙ filtered (take i xs) x

    result : after ≡ filter p (take (suc i) xs) ++ left
    result = is ∙ ap (λ (ys : List X). ys ++ cond (p y) (y ∷ []) [] ++ drop (suc k) rows) before ∙ ap (λ (ys : List X). kept ++ cond (p y) (y ∷ []) [] ++ ys) behind
        ∙ ap (λ (z : X). kept ++ cond (p z) (z ∷ []) [] ++ left) (sym same) ∙ ap (λ (ys : List X). ys ++ left) (sym more)

-- one more place, whether its element is kept or not
pub kept_length : {X : Type 0} (p : X → Bool) (xs : List X) (i : ℕ) (x : X) → slice_get xs i ≡ Some x → length (filter p (take (suc i) xs)) ≡ length (filter p (take i xs)) + cond (p x) 1 0
kept_length p [] i x at = absurd (let no : None ≡ Some x = at in cc)
kept_length p (y ∷ xs) zero x at =
    let one : Some y ≡ Some x = at in
    let same : y ≡ x = cc in
    subst (λ (z : _). length (cond (p y) (y ∷ []) []) ≡ 0 + cond (p z) 1 0) same (elim (cases_Bool (p y)) [ inl yes' ↦ rw yes' refl | inr no' ↦ rw no' refl ])
kept_length p (y ∷ xs) (suc i) x at =
    let more = kept_length p xs i x at in
    elim (cases_Bool (p y)) [ inl yes' ↦ rw yes' (omega (arith, more)) | inr no' ↦ rw no' more ]

-- what stands at a place is in the list
pub listed_at : {X : Type 0} (xs : List X) (k : ℕ) (x : X) → slice_get xs k ≡ Some x → Contains xs x
listed_at [] k x at = absurd (let no : None ≡ Some x = at in cc)
listed_at {X} (y ∷ xs) zero x at = let same : Some y ≡ Some x = at in subst (λ (z : X). Contains (y ∷ xs) z) (let e : y ≡ x = cc in e) (first_in y xs)
listed_at (y ∷ xs) (suc k) x at = later_in y xs x (listed_at xs k x at)
