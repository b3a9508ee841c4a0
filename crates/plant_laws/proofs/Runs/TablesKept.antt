-- What holds of each row of a table of requests holds after each change of the table. The numbers of its rows rise, so a number has
-- one row.
use Rattle.std.proofs.Common.{◌≡◌, ◌+◌, ℕ, Bool, true, false, cond, nat_eq, List, [], ◌∷◌, ◌++◌, filter, Option, Some, None, subst, sym, ap, inl, inr, refl, arith}
use Rattle.std.specs.Map.{lookup, remove_entry}
use Rattle.std.proofs.lemmas.Bool.{eq-eqb, ne_eqb}
use Rattle.plant_model.specs.Types.{Peer, Held}
use Rattle.request_table.specs.Pending.{Pending, NumbersRise, key_of, opened_of, closed_of}
use Rattle.request_table.specs.Lends.{with_item, written_of}
use Rattle.request_table.proofs.PendingLemmas.{NumbersRise-append, NumbersRise-remove}
use Rattle.plant_laws.proofs.Runs.Rows.{In, NumbersRise-filter, rises_above}

pub NumbersRise-with_item : {T : Type 0} (n : ℕ) (i : T) (low high : ℕ) (rows : List (ℕ × Held T)) → NumbersRise low rows high → NumbersRise low (with_item n i rows) high
NumbersRise-with_item n i low high [] rises = rises
NumbersRise-with_item n i low high (x ∷ xs) rises = go (nat_eq n x.0) (NumbersRise-with_item n i x.0 high xs rises.1)
  where
    go : (b : Bool) → NumbersRise x.0 (with_item n i xs) high → NumbersRise low (cond b ((x.0, record x.1 { item = i }) ∷ xs) (x ∷ with_item n i xs)) high
    go true rest = rises
    go false rest = (rises.0, rest)

module _ {T : Type 0} (Q : Held T → Type 0) where
  abbrev pub Rows : List (ℕ × Held T) → Type 0
  Rows [] = Unit {0}
  Rows (h ∷ hs) = Q h.1 × Rows hs

  pub record Keeps (t : Pending T) : Type 0 where
    pub rise : NumbersRise 0 t.rows t.given
    pub rows : Rows t.rows

  -- by membership
  pub in_rows : (h : ℕ × Held T) (xs : List (ℕ × Held T)) → Rows xs → In h xs → Q h.1
  in_rows h [] r is = absurd is
  in_rows h (x ∷ xs) r (inl same) = subst (λ (z : ℕ × Held T). Q z.1) same r.0
  in_rows h (x ∷ xs) r (inr is) = in_rows h xs r.1 is

  pub rows_in : (xs : List (ℕ × Held T)) → ((h : ℕ × Held T) → In h xs → Q h.1) → Rows xs
  rows_in [] all = tt
  rows_in (x ∷ xs) all = (all x (inl refl), rows_in xs (λ h i. all h (inr i)))

  -- what is found under a number
  pub found_under : (n : ℕ) (xs : List (ℕ × Held T)) (h : Held T) → Rows xs → lookup (nat_eq n) xs ≡ Some h → Q h
  found_under n [] h r e = absurd (differ e)
    where
      differ : ◌≡◌ {A = Option (Held T)} None (Some h) → ⊥
      differ e' = cc
  found_under n (x ∷ xs) h r e = go (nat_eq n x.0) (λ e'. found_under n xs h r.1 e') e
    where
      go : (b : Bool) → (lookup (nat_eq n) xs ≡ Some h → Q h) → cond b (Some x.1) (lookup (nat_eq n) xs) ≡ Some h → Q h
      go true more e' = let same : x.1 ≡ h = cc in subst Q same r.0
      go false more e' = more e'

  pub rows_append : (xs ys : List (ℕ × Held T)) → Rows xs → Rows ys → Rows (xs ++ ys)
  rows_append [] ys h k = k
  rows_append (x ∷ xs) ys h k = (h.0, rows_append xs ys h.1 k)

  pub rows_filter : (test : ℕ × Held T → Bool) (xs : List (ℕ × Held T)) → Rows xs → Rows (filter test xs)
  rows_filter test [] h = tt
  rows_filter test (x ∷ xs) h = go (test x) (rows_filter test xs h.1)
    where
      go : (b : Bool) → Rows (filter test xs) → Rows (cond b (x ∷ filter test xs) (filter test xs))
      go true k = (h.0, k)
      go false k = k

  pub rows_removed : (n : ℕ) (xs : List (ℕ × Held T)) → Rows xs → Rows (remove_entry (nat_eq n) xs)
  rows_removed n [] h = tt
  rows_removed n (x ∷ xs) h = go (nat_eq n x.0) (rows_removed n xs h.1)
    where
      go : (b : Bool) → Rows (remove_entry (nat_eq n) xs) → Rows (cond b xs (x ∷ remove_entry (nat_eq n) xs))
      go true k = h.1
      go false k = (h.0, k)

  -- a row of the table is written
  rows_written : (h : ℕ × Held T) (i : T) → Q (record h.1 { item = i }) → (low high : ℕ) (xs : List (ℕ × Held T)) → NumbersRise low xs high → In h xs → Rows xs → Rows (with_item h.0 i xs)
  rows_written h i new low high [] rise is r = absurd is
  rows_written h i new low high (x ∷ xs) rise (inl same) r =
      subst (λ (b : Bool). Rows (cond b ((x.0, record x.1 { item = i }) ∷ xs) (x ∷ with_item h.0 i xs)))
      (sym (eq-eqb h.0 x.0 (ap (λ (z : ℕ × Held T). z.0) (sym same))))
      (subst (λ (z : ℕ × Held T). Q (record z.1 { item = i })) (sym same) new, r.1)
  rows_written h i new low high (x ∷ xs) rise (inr is) r =
      let more = rises_above x.0 high xs h rise.1 is in
      subst (λ (b : Bool). Rows (cond b ((x.0, record x.1 { item = i }) ∷ xs) (x ∷ with_item h.0 i xs)))
      (sym (ne_eqb h.0 x.0 (λ e. omega (arith, more, e))))
      (r.0, rows_written h i new x.0 high xs rise.1 is r.1)

  -- ---- the table

  pub closed_keeps : (n : ℕ) (t : Pending T) → Keeps t → Keeps (closed_of t n)
  closed_keeps n t k = record { rise = NumbersRise-remove (nat_eq n) 0 t.given t.rows k.rise; rows = rows_removed n t.rows k.rows }

  pub filtered_keeps : (test : ℕ × Held T → Bool) (t : Pending T) → Keeps t → Keeps (record t { rows = filter test t.rows })
  filtered_keeps test t k = record { rise = NumbersRise-filter test 0 t.given t.rows k.rise; rows = rows_filter test t.rows k.rows }

  pub written_keeps : (h : ℕ × Held T) (i : T) → Q (record h.1 { item = i }) → (t : Pending T) → In h t.rows → Keeps t → Keeps (written_of t h.0 i)
  written_keeps h i new t is k = record { rise = NumbersRise-with_item h.0 i 0 t.given t.rows k.rise; rows = rows_written h i new 0 t.given t.rows k.rise is k.rows }

  pub opened_keeps : (p : Peer) (x : ℕ) (i : T) → Q (record { key = key_of p x; item = i }) → (t : Pending T) → Keeps t → Keeps (opened_of t p x i)
  opened_keeps p x i new t k = record {
    rise = NumbersRise-append 0 t.given (t.given + 1) t.rows (record { key = key_of p x; item = i }) k.rise (omega arith);
    rows = rows_append t.rows _ k.rows (new, tt);
  }
