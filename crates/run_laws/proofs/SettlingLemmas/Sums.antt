-- Sums over lists, over domains that rise, and over pairs of them.
use Rattle.std.proofs.Common.{◌≡◌, ◌∙◌, ◌<◌, ◌≤◌, ◌+◌, ◌*◌, ℕ, suc, Bool, true, false, cond, nat_eq, nat_lt, is_some, Some, None, List, [], ◌∷◌, ◌++◌, length, inl, inr, refl, sym, ap, subst, arith, length-append}
use Rattle.std.specs.Map.{lookup, remove_entry}
use Rattle.std.proofs.lemmas.Bool.{cases_Bool, eq-eqb, ne_eqb}
use Rattle.plant_laws.specs.plant_model.Types.{As, Peer, Held, ElementRow}
use Rattle.request_table.specs.Pending.{Pending, key_of, opened_of}
use Rattle.request_table.specs.Lends.{with_item}
use Rattle.plant_text.specs.Names.{same_as, insert_as}
use Rattle.plant_text.specs.Settings.{elements_of, row_of}
use Rattle.plant_laws.proofs.Runs.Queues.{same_as_is}
use Rattle.run_laws.specs.Settling.{total}
use Rattle.run_laws.proofs.SettlingLemmas.Pairs.{same_self}
use Rattle.run_laws.proofs.SettlingLemmas.Adjacencies.{Rises}

-- ---- lists

pub total_append : {X : Type 0} (f : X → ℕ) (xs ys : List X) → total f (xs ++ ys) ≡ total f xs + total f ys
total_append f [] ys = omega arith
total_append f (x ∷ xs) ys = let more = total_append f xs ys in omega (arith, more)

pub total_all : {X : Type 0} (w : ℕ) (xs : List X) → total (λ (x : X). w) xs ≡ w * length xs
total_all w [] = omega arith
total_all w (x ∷ xs) = let more = total_all w xs in omega (arith, more)

-- ---- tables

module _ {T : Type 0} where
  pub removed_less : (n : ℕ) (rows : List (ℕ × Held T)) → length (remove_entry (nat_eq n) rows) ≤ length rows
  removed_less n [] = omega arith
  removed_less n (x ∷ xs) = go (nat_eq n x.0) (removed_less n xs)
    where
      go : (b : Bool) → length (remove_entry (nat_eq n) xs) ≤ length xs → length (cond b xs (x ∷ remove_entry (nat_eq n) xs)) ≤ suc (length xs)
      go true more = omega arith
      go false more = omega (arith, more)

  pub written_length : (n : ℕ) (i : T) (rows : List (ℕ × Held T)) → length (with_item n i rows) ≡ length rows
  written_length n i [] = refl
  written_length n i (x ∷ xs) = go (nat_eq n x.0) (written_length n i xs)
    where
      go : (b : Bool) → length (with_item n i xs) ≡ length xs → length (cond b ((x.0, record x.1 { item = i }) ∷ xs) (x ∷ with_item n i xs)) ≡ suc (length xs)
      go true more = refl
      go false more = ap suc more

  pub opened_length : (pending : Pending T) (p : Peer) (x : ℕ) (i : T) → length (opened_of pending p x i).rows ≡ suc (length pending.rows)
  opened_length pending p x i = let l = length-append pending.rows ((pending.given + 1, record { key = key_of p x; item = i }) ∷ []) in omega (arith, l)

  -- a row of a number that stands there is one less
  pub first_closes : (x : ℕ × Held T) (xs : List (ℕ × Held T)) → suc (length (remove_entry (nat_eq x.0) (x ∷ xs))) ≤ length (x ∷ xs)
  first_closes x xs = rw (eq-eqb x.0 x.0 refl) (omega arith)

  pub later_closes : (n : ℕ) (x : ℕ × Held T) (xs : List (ℕ × Held T)) → suc (length (remove_entry (nat_eq n) xs)) ≤ length xs → suc (length (remove_entry (nat_eq n) (x ∷ xs))) ≤ length (x ∷ xs)
  later_closes n x xs more = go (nat_eq n x.0)
    where
      go : (b : Bool) → suc (length (cond b xs (x ∷ remove_entry (nat_eq n) xs))) ≤ suc (length xs)
      go true = omega arith
      go false = omega (arith, more)

  pub found_closes : (n : ℕ) (rows : List (ℕ × Held T)) (h : Held T) → lookup (nat_eq n) rows ≡ Some h → suc (length (remove_entry (nat_eq n) rows)) ≤ length rows
  found_closes n [] h is = absurd (let clash : None ≡ Some h = is in cc)
  found_closes n (x ∷ xs) h is = go (found_closes n xs h) (nat_eq n x.0) is
    where
      go : (lookup (nat_eq n) xs ≡ Some h → suc (length (remove_entry (nat_eq n) xs)) ≤ length xs) → (b : Bool) → cond b (Some x.1) (lookup (nat_eq n) xs) ≡ Some h → suc (length (cond b xs (x ∷ remove_entry (nat_eq n) xs))) ≤ suc (length xs)
      go more true is' = omega arith
      go more false is' = let one = more is' in omega (arith, one)

-- ---- domains that rise

abbrev pub stands : As → List As → Bool
stands d [] = false
stands d (a ∷ as') = cond (same_as a d) true (stands d as')

not_below : (d : As) (low : ℕ) (as' : List As) → Rises low as' → d.0 < low → stands d as' ≡ false
not_below d low [] rises less = refl
not_below d low (a ∷ as') rises less = rw (ne_eqb a.0 d.0 (λ is. omega (arith, is, less, rises.0))) (not_below d (suc a.0) as' rises.1 (omega (arith, less, rises.0)))

-- nothing is more
pub total_le : {X : Type 0} (f g : X → ℕ) (xs : List X) → ((x : X) → f x ≤ g x) → total f xs ≤ total g xs
total_le f g [] each = omega arith
total_le f g (x ∷ xs) each = let here = each x in let more = total_le f g xs each in omega (arith, here, more)

-- the same but at a domain that does not stand there
total_same : (f g : As → ℕ) (k : As) (as' : List As) → stands k as' ≡ false → ((d : As) → same_as k d ≡ false → f d ≡ g d) → total f as' ≡ total g as'
total_same f g k [] none same = refl
total_same f g k (a ∷ as') none same = go (total_same f g k as') (same_as a k) refl none
  where
    turn : same_as a k ≡ false → same_as k a ≡ false
    turn miss = elim (cases_Bool (same_as k a)) [
      | inr other ↦ other
      | inl hit ↦ absurd (let is = same_as_is k a hit in let self : same_as k k ≡ false = subst (λ (z : As). same_as z k ≡ false) (sym is) miss in let clash : true ≡ false = sym (same_self k) ∙ self in cc)
    ]

    go : (stands k as' ≡ false → ((d : As) → same_as k d ≡ false → f d ≡ g d) → total f as' ≡ total g as') → (b : Bool) → same_as a k ≡ b → cond b true (stands k as') ≡ false → f a + total f as' ≡ g a + total g as'
    go more true is none' = absurd (let clash : true ≡ false = none' in cc)
    go more false is none' = let here = same a (turn is) in let rest = more none' same in omega (arith, here, rest)

-- one at a domain among others that rise: what is more there is more in all
pub total_more : (f g : As → ℕ) (k : As) (w low : ℕ) (as' : List As) → Rises low as' → ((d : As) → same_as k d ≡ false → f d ≤ g d) → f k ≤ g k + w → total f as' ≤ total g as' + w
total_more f g k w low [] rises others here = omega arith
total_more f g k w low (a ∷ as') rises others here = go (total_more f g k w (suc a.0) as' rises.1 others here) (same_as k a) refl
  where
    behind : (as'' : List As) (low' : ℕ) → Rises low' as'' → k.0 < low' → total f as'' ≤ total g as''
    behind [] low' rises' below = omega arith
    behind (d ∷ ds) low' rises' below =
        let one = others d (ne_eqb k.0 d.0 (λ is. omega (arith, is, below, rises'.0))) in
        let more = behind ds (suc d.0) rises'.1 (omega (arith, below, rises'.0)) in
        omega (arith, one, more)

    go : total f as' ≤ total g as' + w → (b : Bool) → same_as k a ≡ b → f a + total f as' ≤ g a + total g as' + w
    go more true is =
        let same : k ≡ a = same_as_is k a is in
        let at : f a ≤ g a + w = subst (λ (z : As). f z ≤ g z + w) same here in
        let rest = behind as' (suc a.0) rises.1 (let e : k.0 ≡ a.0 = ap (λ (z : As). z.0) same in omega (arith, e)) in
        omega (arith, at, rest)
    go more false is = let at = others a is in omega (arith, at, more)

-- what is less at one that stands there is less in all
pub total_less : (f g : As → ℕ) (k : As) (w : ℕ) (as' : List As) → stands k as' ≡ true → ((d : As) → f d ≤ g d) → f k + w ≤ g k → total f as' + w ≤ total g as'
total_less f g k w [] there each here = absurd (let clash : false ≡ true = there in cc)
total_less f g k w (a ∷ as') there each here = go (total_less f g k w as') (same_as a k) refl there
  where
    go : (stands k as' ≡ true → ((d : As) → f d ≤ g d) → f k + w ≤ g k → total f as' + w ≤ total g as') → (b : Bool) → same_as a k ≡ b → cond b true (stands k as') ≡ true → f a + total f as' + w ≤ g a + total g as'
    go more true is there' =
        let same : a ≡ k = same_as_is a k is in
        let at : f a + w ≤ g a = subst (λ (z : As). f z + w ≤ g z) (sym same) here in
        let rest = total_le f g as' each in
        omega (arith, at, rest)
    go more false is there' = let at = each a in let rest = more there' each here in omega (arith, at, rest)

-- one that stands there is no more than all
pub total_has : (f : As → ℕ) (k : As) (as' : List As) → stands k as' ≡ true → f k ≤ total f as'
total_has f k [] there = absurd (let clash : false ≡ true = there in cc)
total_has f k (a ∷ as') there = go (total_has f k as') (same_as a k) refl there
  where
    go : (stands k as' ≡ true → f k ≤ total f as') → (b : Bool) → same_as a k ≡ b → cond b true (stands k as') ≡ true → f k ≤ f a + total f as'
    go more true is there' = let same : f a ≡ f k = ap f (same_as_is a k is) in omega (arith, same)
    go more false is there' = let rest = more there' in omega (arith, rest)

-- one that stands there becomes another: the change is that of the sum
pub total_set : (f g : As → ℕ) (k : As) (low : ℕ) (as' : List As) → Rises low as' → stands k as' ≡ true → ((d : As) → same_as k d ≡ false → f d ≡ g d) → total f as' + g k ≡ total g as' + f k
total_set f g k low [] rises there others = absurd (let clash : false ≡ true = there in cc)
total_set f g k low (a ∷ as') rises there others = go (total_set f g k (suc a.0) as' rises.1) (same_as a k) refl there
  where
    turn : same_as a k ≡ false → same_as k a ≡ false
    turn miss = elim (cases_Bool (same_as k a)) [
      | inr other ↦ other
      | inl hit ↦ absurd (let is = same_as_is k a hit in let self : same_as k k ≡ false = subst (λ (z : As). same_as z k ≡ false) (sym is) miss in let clash : true ≡ false = sym (same_self k) ∙ self in cc)
    ]

    go : (stands k as' ≡ true → ((d : As) → same_as k d ≡ false → f d ≡ g d) → total f as' + g k ≡ total g as' + f k) → (b : Bool) → same_as a k ≡ b → cond b true (stands k as') ≡ true → f a + total f as' + g k ≡ g a + total g as' + f k
    go more true is there' =
        let same : a ≡ k = same_as_is a k is in
        let rest = total_same f g k as' (not_below k (suc a.0) as' rises.1 (let e : a.0 ≡ k.0 = ap (λ (z : As). z.0) same in omega (arith, e))) others in
        let here : f a ≡ f k = ap f same in
        let back : g a ≡ g k = ap g same in
        omega (arith, rest, here, back)
    go more false is there' = let at = others a (turn is) in let rest = more there' others in omega (arith, at, rest)

-- ---- a domain among those of the settings

pub stands_insert : (d n : As) (ds : List As) → stands d (insert_as n ds) ≡ cond (same_as n d) true (stands d ds)
stands_insert d n [] = refl
stands_insert d n (a ∷ ds) = go (stands_insert d n ds) (nat_lt n.0 a.0) (same_as n a) refl
  where
    swap : (x y z : Bool) → cond x true (cond y true z) ≡ cond y true (cond x true z)
    swap true true z = refl
    swap true false z = refl
    swap false true z = refl
    swap false false z = refl

    twice : (x z : Bool) → cond x true z ≡ cond x true (cond x true z)
    twice true z = refl
    twice false z = refl

    go : stands d (insert_as n ds) ≡ cond (same_as n d) true (stands d ds) → (b c : Bool) → same_as n a ≡ c →
        stands d (cond b (n ∷ a ∷ ds) (cond c (a ∷ ds) (a ∷ insert_as n ds))) ≡ cond (same_as n d) true (cond (same_as a d) true (stands d ds))
    go more true c is = refl
    go more false true is = twice (same_as a d) (stands d ds) ∙ ap (λ (x : As). cond (same_as x d) true (cond (same_as a d) true (stands d ds))) (sym (same_as_is n a is))
    go more false false is = ap (cond (same_as a d) true) more ∙ swap (same_as a d) (same_as n d) (stands d ds)

pub stands_rows : (d : As) (rows : List ElementRow) → stands d (elements_of rows) ≡ is_some (row_of d rows)
stands_rows d [] = refl
stands_rows d (r ∷ rows) = stands_insert d r.own (elements_of rows) ∙ go (same_as r.own d) (stands_rows d rows)
  where
    go : (b : Bool) → stands d (elements_of rows) ≡ is_some (row_of d rows) → cond b true (stands d (elements_of rows)) ≡ is_some (cond b (Some r) (row_of d rows))
    go true more = refl
    go false more = more
