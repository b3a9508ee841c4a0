-- Lists, totals over views, histories one entry longer.
use Rattle.std.proofs.Common.{◌≡◌, ℕ, zero, suc, ◌+◌, ◌≤◌, ◌≢◌, List, [], ◌∷◌, ◌++◌, length, take, drop, ◌<◌, length-append, true, set, sym, refl, ap, ◌∙◌, subst, arith, append_assoc, append-nil}
use mathlib.Core.Option.{some, some-injective, some-ne-none}
use mathlib.Core.Logic.{dite}
use native.Mathlib.Decide.{ℕ_discrete}
use lib.ListN.{get_elem?}
use Rattle.atomic_table.proofs.Lists.{set_else}
use Rattle.plant_lock.specs.History.{replay, Legal, StartsWith, all_below, entries_at, times, once_below}
use Rattle.plant_lock.specs.Rule.{total}
use Rattle.std.proofs.lemmas.Bool.Decides.{nat_tests}

module _ {V : Type 0} where
  pub set_at : (l : List V) (i : ℕ) (a b : V) → get_elem? l i ≡ some a → get_elem? (set l i b) i ≡ some b
  set_at [] i a b e = absurd (some-ne-none a (sym e))
  set_at (x ∷ xs) zero a b e = refl
  set_at (x ∷ xs) (suc i) a b e = set_at xs i a b e

  pub one_at : (l : List V) (i : ℕ) (a b : V) → get_elem? l i ≡ some a → get_elem? l i ≡ some b → a ≡ b
  one_at l i a b p q = some-injective a b (sym p ∙ q)

  -- what stands at some place, after a change elsewhere or of what stands there
  pub there_set : (P : V → Type 0) (l : List V) (i k : ℕ) (v w : V) → get_elem? l i ≡ some v → (P v → P w) → ((u : V) × (get_elem? l k ≡ some u) × P u) → (u : V) × (get_elem? (set l i w) k ≡ some u) × P u
  there_set P l i k v w at more t = dite (ℕ_discrete k i)
      (λ e. (w, subst (λ j. get_elem? (set l i w) j ≡ some w) (sym e) (set_at l i v w at), more (subst P (one_at l i t.0 v (subst (λ j. get_elem? l j ≡ some t.0) e t.1) at) t.2)))
      (λ ne. (t.0, set_else l i k w ne ∙ t.1, t.2))

  pub total_set : (f : V → ℕ) (l : List V) (i : ℕ) (v w : V) → get_elem? l i ≡ some v → total f (set l i w) + f v ≡ total f l + f w
  total_set f [] i v w e = absurd (some-ne-none v (sym e))
  total_set f (x ∷ xs) zero v w e = let s : f x ≡ f v = ap f (some-injective x v e) in omega arith
  total_set f (x ∷ xs) (suc i) v w e = let s = total_set f xs i v w e in omega arith

  pub total_snoc : (f : V → ℕ) (l : List V) (w : V) → total f (l ++ w ∷ []) ≡ total f l + f w
  total_snoc f [] w = omega arith
  total_snoc f (x ∷ xs) w = let s = total_snoc f xs w in omega arith

  pub part_below : (f : V → ℕ) (l : List V) (i : ℕ) (v : V) → get_elem? l i ≡ some v → f v ≤ total f l
  part_below f [] i v e = absurd (some-ne-none v (sym e))
  part_below f (x ∷ xs) zero v e = let s : f x ≡ f v = ap f (some-injective x v e) in omega arith
  part_below f (x ∷ xs) (suc i) v e = let s = part_below f xs i v e in omega arith

  pub parts_below : (f : V → ℕ) (l : List V) (i j : ℕ) (v w : V) → get_elem? l i ≡ some v → get_elem? l j ≡ some w → i ≢ j → f v + f w ≤ total f l
  parts_below f [] i j v w p q ne = absurd (some-ne-none v (sym p))
  parts_below f (x ∷ xs) zero zero v w p q ne = absurd (ne refl)
  parts_below f (x ∷ xs) zero (suc j) v w p q ne = let s : f x ≡ f v = ap f (some-injective x v p) in let t = part_below f xs j w q in omega arith
  parts_below f (x ∷ xs) (suc i) zero v w p q ne = let s : f x ≡ f w = ap f (some-injective x w q) in let t = part_below f xs i v p in omega arith
  parts_below f (x ∷ xs) (suc i) (suc j) v w p q ne = let s = parts_below f xs i j v w p q (λ e. ne (ap suc e)) in omega arith

module _ {V : Type 0} where
  none_all : (f : V → ℕ) (l : List V) → ((j : ℕ) (u : V) → get_elem? l j ≡ some u → f u ≡ 0) → total f l ≡ 0
  none_all f [] z = refl
  none_all f (x ∷ xs) z = let a = z 0 x refl in let b = none_all f xs (λ j u e. z (suc j) u e) in omega arith

  pub alone : (f : V → ℕ) (l : List V) (i : ℕ) (v : V) → get_elem? l i ≡ some v → ((j : ℕ) (u : V) → j ≢ i → get_elem? l j ≡ some u → f u ≡ 0) → total f l ≡ f v
  alone f [] i v e z = absurd (some-ne-none v (sym e))
  alone f (x ∷ xs) zero v e z = let s : f x ≡ f v = ap f (some-injective x v e) in let b = none_all f xs (λ j u e'. z (suc j) u (λ q. omega arith) e') in omega arith
  alone f (x ∷ xs) (suc i) v e z = let a = z 0 x (λ q. omega arith) refl in let b = alone f xs i v e (λ j u ne e'. z (suc j) u (λ q. ne (omega arith)) e') in omega arith

pub times_append : (x : ℕ) (l m : List ℕ) → times x (l ++ m) ≡ times x l + times x m
times_append x [] m = omega arith
times_append x (y ∷ ys) m = let s = times_append x ys m in omega arith

pub once_next : (x n : ℕ) → once_below x (n + 1) ≡ times x (n ∷ []) + once_below x n
once_next x n = grind (arith, nat_tests)

pub once_none : (x : ℕ) → once_below x 0 ≡ 0
once_none x = grind (arith, nat_tests)

module _ {E : Type 0} where
  pub starts_self : (xs : List E) → StartsWith xs xs
  starts_self xs = ([], sym (append-nil xs))

  pub starts_none : (xs : List E) → StartsWith xs []
  starts_none xs = (xs, refl)

  pub starts_more : (xs ys zs : List E) → StartsWith xs zs → StartsWith (xs ++ ys) zs
  starts_more xs ys zs s = (s.0 ++ ys, ap (λ (l : List E). l ++ ys) s.1 ∙ append_assoc zs s.0 ys)

  -- of two beginnings of one list the longer begins with the shorter
  pub shorter : (h xs ys : List E) → StartsWith h xs → StartsWith h ys → length xs ≤ length ys → StartsWith ys xs
  shorter h [] ys s t le = (ys, refl)
  shorter h (x ∷ xs) [] s t le = absurd (omega arith)
  shorter [] (x ∷ xs) (y ∷ ys) s t le = cc (s.1)
  shorter (z ∷ zs) (x ∷ xs) (y ∷ ys) s t le =
      let a : z ≡ x = cc (s.1) in let b : z ≡ y = cc (t.1) in let p : zs ≡ xs ++ s.0 = cc (s.1) in let q : zs ≡ ys ++ t.0 = cc (t.1) in
      let r = shorter zs xs ys (s.0, p) (t.0, q) (omega arith) in (r.0, λ i. (sym b ∙ a) i ∷ r.1 i)

module _ {S A B : Type 0} (after : S → A → B → S) where
  pub replay_snoc : (s : S) (h : List (A × B)) (a : A) (b : B) → replay after s (h ++ (a, b) ∷ []) ≡ after (replay after s h) a b
  replay_snoc s [] a b = refl
  replay_snoc s (e ∷ es) a b = replay_snoc (after s e.0 e.1) es a b

module _ {S A B : Type 0} (admits : S → A → Type 0) (allows : S → A → B → Type 0) (after : S → A → B → S) where
  pub legal_snoc : (s : S) (h : List (A × B)) (a : A) (b : B) → Legal admits allows after s h → admits (replay after s h) a → allows (replay after s h) a b → Legal admits allows after s (h ++ (a, b) ∷ [])
  legal_snoc s [] a b l m n = (m, n, tt)
  legal_snoc s (e ∷ es) a b l m n = (l.0, l.1, legal_snoc (after s e.0 e.1) es a b l.2 m n)

  pub legal_front : (s : S) (xs ys : List (A × B)) → Legal admits allows after s (xs ++ ys) → Legal admits allows after s xs
  legal_front s [] ys l = tt
  legal_front s (e ∷ es) ys l = (l.0, l.1, legal_front (after s e.0 e.1) es ys l.2)

  pub legal_back : (s : S) (xs ys : List (A × B)) → Legal admits allows after s (xs ++ ys) → Legal admits allows after (replay after s xs) ys
  legal_back s [] ys l = l
  legal_back s (e ∷ es) ys l = legal_back (after s e.0 e.1) es ys l.2

  pub legal_start : (s : S) (h seen : List (A × B)) → Legal admits allows after s h → StartsWith h seen → Legal admits allows after s seen
  legal_start s h seen l t = legal_front s seen t.0 (subst (Legal admits allows after s) t.1 l)

module _ {S A B : Type 0} (after : S → A → B → S) where
  pub replay_append : (s : S) (xs ys : List (A × B)) → replay after s (xs ++ ys) ≡ replay after (replay after s xs) ys
  replay_append s [] ys = refl
  replay_append s (e ∷ es) ys = replay_append (after s e.0 e.1) es ys

pub all_more : (m n : ℕ) (l : List ℕ) → m ≤ n → all_below m l ≡ true → all_below n l ≡ true
all_more m n [] le h = refl
all_more m n (x ∷ xs) le h = let r = all_more m n xs le in grind (arith, nat_tests)

pub all_append : (n : ℕ) (l m : List ℕ) → all_below n l ≡ true → all_below n m ≡ true → all_below n (l ++ m) ≡ true
all_append n [] m p q = q
all_append n (x ∷ xs) m p q = let r = all_append n xs m in grind (arith, nat_tests)

-- one more place, the last of a longer history
pub all_next : (m n t : ℕ) (l : List ℕ) → m ≤ t → n ≡ t + 1 → all_below m l ≡ true → all_below n (l ++ t ∷ []) ≡ true
all_next m n t l le is h = all_append n l (t ∷ []) (all_more m n l (omega arith) h) (grind (arith, nat_tests))

pub starts_length : {E : Type 0} (xs ys : List E) → StartsWith xs ys → length ys ≤ length xs
starts_length xs ys s = let e = ap length s.1 in omega (arith, length-append ys s.0)

module _ {E : Type 0} where
  at_front : (xs ys : List E) (p : ℕ) → p < length xs → take 1 (drop p (xs ++ ys)) ≡ take 1 (drop p xs)
  at_front [] ys p h = absurd (omega arith)
  at_front (x ∷ xs) ys zero h = refl
  at_front (x ∷ xs) ys (suc p) h = at_front xs ys p (omega arith)

  at_end : (xs : List E) (e : E) (n : ℕ) → n ≡ length xs → take 1 (drop n (xs ++ e ∷ [])) ≡ e ∷ []
  at_end [] e zero h = refl
  at_end [] e (suc n) h = absurd (omega arith)
  at_end (x ∷ xs) e zero h = absurd (omega arith)
  at_end (x ∷ xs) e (suc n) h = at_end xs e n (omega arith)

  entries_more : (xs ys : List E) (ps : List ℕ) → all_below (length xs) ps ≡ true → entries_at (xs ++ ys) ps ≡ entries_at xs ps
  entries_more xs ys [] h = refl
  entries_more xs ys (p ∷ ps) h = let low : p < length xs = grind (arith, nat_tests) in let rest : all_below (length xs) ps ≡ true = grind (arith, nat_tests) in
      λ i. at_front xs ys p low i ++ entries_more xs ys ps rest i

  entries_append : (xs : List E) (ps qs : List ℕ) → entries_at xs (ps ++ qs) ≡ entries_at xs ps ++ entries_at xs qs
  entries_append xs [] qs = refl
  entries_append xs (p ∷ ps) qs = ap (λ (l : List E). take 1 (drop p xs) ++ l) (entries_append xs ps qs) ∙ sym (append_assoc (take 1 (drop p xs)) (entries_at xs ps) (entries_at xs qs))

  -- the own entries after one more, at the end of a longer history
  pub entries_next : (seen between : List E) (e : E) (n : ℕ) (ps : List ℕ) → n ≡ length (seen ++ between) → all_below (length seen) ps ≡ true
      → entries_at ((seen ++ between) ++ e ∷ []) (ps ++ n ∷ []) ≡ entries_at seen ps ++ e ∷ []
  entries_next seen between e n ps is h =
      let h' = all_more (length seen) (length (seen ++ between)) ps (let a = length-append seen between in omega arith) h in
      entries_append ((seen ++ between) ++ e ∷ []) ps (n ∷ []) ∙ (λ i. (entries_more (seen ++ between) (e ∷ []) ps h' ∙ entries_more seen between ps h) i ++ (append-nil (take 1 (drop n ((seen ++ between) ++ e ∷ []))) ∙ at_end (seen ++ between) e n is) i)
