-- Requests that are counted by their askers, after each change of a table.
use Rattle.std.proofs.Common.{◌≡◌, ℕ, ◌+◌, ◌≤◌, Bool, true, false, cond, nat_eq, List, [], ◌∷◌, ◌++◌, filter, length, refl, ap, arith}
use Rattle.std.specs.Map.{remove_entry}
use Rattle.pce_common.specs.plant_model.Types.{Peer, Held}
use Rattle.request_table.specs.Lends.{with_item}
use Rattle.pce_common.specs.Owed.{count_by_asker}

abbrev pub one_if : Bool → ℕ
one_if b = cond b 1 0

-- so much for each
abbrev pub for_each : {X : Type 0} → ℕ → List X → ℕ
for_each w [] = 0
for_each w (x ∷ xs) = w + for_each w xs

pub for_each_is : {X : Type 0} (b : Bool) (xs : List X) → for_each (one_if b) xs ≡ cond b (length xs) 0
for_each_is true [] = refl
for_each_is true (x ∷ xs) = omega (arith, for_each_is true xs)
for_each_is false [] = refl
for_each_is false (x ∷ xs) = omega (arith, for_each_is false xs)

module _ {T : Type 0} (test : Peer → Bool) where
  pub count_cons : (row : ℕ × Held T) (rows : List (ℕ × Held T)) → count_by_asker test (row ∷ rows) ≡ one_if (test row.1.key.peer) + count_by_asker test rows
  count_cons row rows = go (test row.1.key.peer)
    where
      go : (b : Bool) → length (cond b (row ∷ filter (λ (h : ℕ × Held T). test h.1.key.peer) rows) (filter (λ (h : ℕ × Held T). test h.1.key.peer) rows)) ≡ one_if b + count_by_asker test rows
      go true = omega arith
      go false = omega arith

  pub count_push : (rows : List (ℕ × Held T)) (row : ℕ × Held T) → count_by_asker test (rows ++ row ∷ []) ≡ count_by_asker test rows + one_if (test row.1.key.peer)
  count_push [] row = omega (arith, count_cons row [])
  count_push (x ∷ rows) row = omega (arith, count_cons x (rows ++ row ∷ []), count_cons x rows, count_push rows row)

  -- what is left by a test of rows
  pub count_filter : (left : ℕ × Held T → Bool) (rows : List (ℕ × Held T)) → count_by_asker test (filter left rows) ≤ count_by_asker test rows
  count_filter left [] = omega arith
  count_filter left (x ∷ rows) = go (left x) (count_filter left rows)
    where
      go : (b : Bool) → count_by_asker test (filter left rows) ≤ count_by_asker test rows → count_by_asker test (cond b (x ∷ filter left rows) (filter left rows)) ≤ count_by_asker test (x ∷ rows)
      go true rest = omega (arith, count_cons x rows, count_cons x (filter left rows), rest)
      go false rest = omega (arith, count_cons x rows, rest)

  pub count_removed : (gone : ℕ → Bool) (rows : List (ℕ × Held T)) → count_by_asker test (remove_entry gone rows) ≤ count_by_asker test rows
  count_removed gone [] = omega arith
  count_removed gone (x ∷ rows) = go (gone x.0) (count_removed gone rows)
    where
      go : (b : Bool) → count_by_asker test (remove_entry gone rows) ≤ count_by_asker test rows → count_by_asker test (cond b rows (x ∷ remove_entry gone rows)) ≤ count_by_asker test (x ∷ rows)
      go true rest = omega (arith, count_cons x rows)
      go false rest = omega (arith, count_cons x rows, count_cons x (remove_entry gone rows), rest)

  pub count_written : (number : ℕ) (item : T) (rows : List (ℕ × Held T)) → count_by_asker test (with_item number item rows) ≡ count_by_asker test rows
  count_written number item [] = refl
  count_written number item (x ∷ rows) = go (nat_eq number x.0) (count_written number item rows)
    where
      go : (b : Bool) → count_by_asker test (with_item number item rows) ≡ count_by_asker test rows → count_by_asker test (cond b ((x.0, record x.1 { item = item }) ∷ rows) (x ∷ with_item number item rows)) ≡ count_by_asker test (x ∷ rows)
      go true rest = omega (arith, count_cons x rows, count_cons (x.0, record x.1 { item = item }) rows)
      go false rest = omega (arith, count_cons x rows, count_cons x (with_item number item rows), rest)

  -- Two tests of which no row passes both leave no more than there were.
  pub count_apart : (left other : ℕ × Held T → Bool) → ((h : ℕ × Held T) → left h ≡ true → other h ≡ false) → (rows : List (ℕ × Held T)) →
      count_by_asker test (filter left rows) + count_by_asker test (filter other rows) ≤ count_by_asker test rows
  count_apart left other apart [] = omega arith
  count_apart left other apart (x ∷ rows) = go (left x) (other x) (apart x) (count_apart left other apart rows)
    where
      go : (b c : Bool) → (b ≡ true → c ≡ false) → count_by_asker test (filter left rows) + count_by_asker test (filter other rows) ≤ count_by_asker test rows →
          count_by_asker test (cond b (x ∷ filter left rows) (filter left rows)) + count_by_asker test (cond c (x ∷ filter other rows) (filter other rows)) ≤ count_by_asker test (x ∷ rows)
      go true true differ rest = absurd (let clash : true ≡ false = differ refl in cc)
      go true false differ rest = omega (arith, rest, count_cons x rows, count_cons x (filter left rows))
      go false true differ rest = omega (arith, rest, count_cons x rows, count_cons x (filter other rows))
      go false false differ rest = omega (arith, rest, count_cons x rows)

  -- no row is left whose asker passes
  pub count_none : (left : ℕ × Held T → Bool) → ((h : ℕ × Held T) → left h ≡ true → test h.1.key.peer ≡ false) → (rows : List (ℕ × Held T)) → count_by_asker test (filter left rows) ≡ 0
  count_none left miss [] = refl
  count_none left miss (x ∷ rows) = go (left x) (miss x) (count_none left miss rows)
    where
      go : (b : Bool) → (b ≡ true → test x.1.key.peer ≡ false) → count_by_asker test (filter left rows) ≡ 0 → count_by_asker test (cond b (x ∷ filter left rows) (filter left rows)) ≡ 0
      go true m rest = let none : test x.1.key.peer ≡ false = m refl in let step : one_if (test x.1.key.peer) ≡ 0 = ap one_if none in omega (arith, step, count_cons x (filter left rows), rest)
      go false m rest = rest

-- every row is counted where every asker passes
pub count_all : {T : Type 0} (rows : List (ℕ × Held T)) → count_by_asker (λ q. true) rows ≡ length rows
count_all [] = refl
count_all (x ∷ rows) = omega (arith, count_all rows)
