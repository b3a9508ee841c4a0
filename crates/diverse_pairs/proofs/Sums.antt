-- Sums over links, each of which occurs once.
use Rattle.std.proofs.Common.{◌≡◌, ◌≢◌, ◌⊎◌, inl, inr, ℕ, zero, suc, ◌+◌, ◌<◌, ◌≤◌, List, [], ◌∷◌, ◌++◌, length, get_or, refl, sym, ◌∙◌, ap, arith}
use Rattle.std.specs.Prelude.{AllPairs, Contains}
use Rattle.std.proofs.lemmas.List.{get_or_default}
use Rattle.dom_base.specs.declared.link.Link.{Link}

abbrev pub total : (Link → ℕ) → List Link → ℕ
total f [] = 0
total f (l ∷ ls) = f l + total f ls

pub total_append : (f : Link → ℕ) (ls ms : List Link) → total f (ls ++ ms) ≡ total f ls + total f ms
total_append f [] ms = omega arith
total_append f (l ∷ ls) ms = let rest = total_append f ls ms in omega arith

-- the list without the element at a place
abbrev pub without : {X : Type 0} → ℕ → List X → List X
without i [] = []
without zero (x ∷ xs) = xs
without (suc i) (x ∷ xs) = x ∷ without i xs

total_without : (f : Link → ℕ) (ls : List Link) (i : ℕ) (d : Link) → i < length ls → total f ls ≡ f (get_or ls i d) + total f (without i ls)
total_without f [] i d below = absurd (omega arith)
total_without f (l ∷ ls) zero d below = refl
total_without f (l ∷ ls) (suc i) d below = let rest = total_without f ls i d (omega arith) in omega arith

pub head_of : {X : Type 0} (x : X) (xs : List X) → Contains (x ∷ xs) x
head_of x xs = (0, omega arith, refl)

pub behind_head : {X : Type 0} (y x : X) (xs : List X) → Contains xs x → Contains (y ∷ xs) x
behind_head y x xs (i, below, is) = (suc i, omega arith, is)

kept : {X : Type 0} (xs : List X) (i k : ℕ) (x : X) → k < length xs → get_or xs k x ≡ x → (get_or xs i x ≡ x → ⊥) → Contains (without i xs) x
kept [] i k x below is other = absurd (omega arith)
kept (y ∷ xs) zero zero x below is other = absurd (other is)
kept (y ∷ xs) zero (suc k) x below is other = (k, omega arith, is)
kept (y ∷ xs) (suc i) zero x below is other = (0, omega arith, is)
kept (y ∷ xs) (suc i) (suc k) x below is other = behind_head y x (without i xs) (kept xs i k x (omega arith) is other)

-- Links that occur once have no greater sum than links among which each of them with a value stands.
pub sum_within : (f : Link → ℕ) (ls us : List Link) → AllPairs (λ l m. l ≢ m) ls → ((l : Link) → Contains ls l → (f l ≡ 0) ⊎ Contains us l) → total f ls ≤ total f us
sum_within f [] us differ covered = omega arith
sum_within f (l ∷ ls) us differ covered =
    let tail_differs : AllPairs (λ k m. k ≢ m) ls = λ i j d before below. differ (suc i) (suc j) d (omega arith) (omega arith) in
    elim (covered l (head_of l ls)) [
      | inl none ↦
          let rest = sum_within f ls us tail_differs (λ m has. covered m (behind_head l m ls has)) in
          omega (arith, none, rest)
      | inr (i, below, is) ↦
          let rest : total f ls ≤ total f (without i us) =
          sum_within f ls (without i us) tail_differs (λ m has. left m has i below is (covered m (behind_head l m ls has))) in
          let parts : total f us ≡ f (get_or us i l) + total f (without i us) = total_without f us i l below in
          let value : f (get_or us i l) ≡ f l = ap f is in
          omega (arith, rest, parts, value)
    ]
  where
    left : (m : Link) → Contains ls m → (i : ℕ) → i < length us → get_or us i l ≡ l → (f m ≡ 0) ⊎ Contains us m → (f m ≡ 0) ⊎ Contains (without i us) m
    left m has i below is (inl none) = inl none
    left m (j, within, at) i below is (inr (k, under, here)) =
        inr (kept us i k m under here (λ same. differ 0 (suc j) l (omega arith) (omega arith)
        (sym is ∙ get_or_default us i l m below ∙ same ∙ sym at ∙ get_or_default ls j m l within)))
