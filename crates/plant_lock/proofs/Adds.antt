-- Two adds in one history of the counter.
use Rattle.std.proofs.Common.{◌≡◌, ◌≢◌, ◌⊎◌, ℕ, zero, suc, ◌<◌, List, [], ◌∷◌, ◌++◌, length, take, drop, refl, sym, ap, ◌∙◌, subst, inl, inr, arith, append-nil, append_assoc}
use Rattle.std.proofs.lemmas.Bool.Decides.{nat_tests}
use Rattle.plant_lock.specs.declared.counter.Change.{Change}
use Rattle.plant_lock.specs.declared.counter.Change.TheVariants.{Add}
use Rattle.plant_lock.specs.Counter.{sum_after}
use Rattle.plant_lock.specs.History.{replay, Legal, StartsWith, entries_at, times, once_below}

stands_below : (p q n : ℕ) → times p (p ∷ q ∷ []) ≡ once_below p n → p < n
stands_below p q n e = grind (arith, nat_tests)

stands_below_too : (p q n : ℕ) → times q (p ∷ q ∷ []) ≡ once_below q n → q < n
stands_below_too p q n e = grind (arith, nat_tests)

apart : (p q n : ℕ) → times p (p ∷ q ∷ []) ≡ once_below p n → p ≢ q
apart p q n e = grind (arith, nat_tests)

one_of : (x p q n : ℕ) → times x (p ∷ q ∷ []) ≡ once_below x n → x < n → (p ≡ x) ⊎ (q ≡ x)
one_of x p q n e l = grind (arith, nat_tests)

module _ {E : Type 0} where
  at_none : (p : ℕ) (e : E) → take 1 (drop p []) ≡ e ∷ [] → ⊥
  at_none zero e h = cc h
  at_none (suc p) e h = cc h

  at_more : (s more : List E) (p : ℕ) (e : E) → take 1 (drop p s) ≡ e ∷ [] → take 1 (drop p (s ++ more)) ≡ e ∷ []
  at_more [] more p e h = absurd (at_none p e h)
  at_more (x ∷ xs) more zero e h = h
  at_more (x ∷ xs) more (suc p) e h = at_more xs more p e h

abbrev pub E : Type 0
E = Change × ℕ

abbrev pub admits : ℕ → Change → Type 0
admits s a = Unit {0}

abbrev pub allows : ℕ → Change → ℕ → Type 0
allows s a b = b ≡ sum_after s a

abbrev pub after : ℕ → Change → ℕ → ℕ
after s a b = sum_after s a

-- which of two adds came first, and what each was told
abbrev pub InOrder : ℕ → ℕ → ℕ → ℕ → Type 0
InOrder p a q b = ((p ≡ 0) × (a ≡ 2) × (q ≡ 1) × (b ≡ 5)) ⊎ ((p ≡ 1) × (a ≡ 5) × (q ≡ 0) × (b ≡ 3))

two_of : (h : List E) (p q a b y : ℕ) → take 1 (drop p h) ≡ (Add 2, a) ∷ [] → take 1 (drop q h) ≡ (Add 3, b) ∷ [] → ((x : ℕ) → times x (p ∷ q ∷ []) ≡ once_below x (length h))
    → Legal admits allows after 0 h → y ≡ replay after 0 h → InOrder p a q b × (y ≡ 5)
two_of [] p q a b y at at' once l z = absurd (at_none p (Add 2, a) at)
two_of (e ∷ []) p q a b y at at' once l z = let i = stands_below p q 1 (once p) in let j = stands_below_too p q 1 (once q) in absurd (apart p q 1 (once p) (omega arith))
two_of (e ∷ f ∷ []) zero (suc zero) a b y at at' once l z = let i : e ≡ (Add 2, a) = cc at in let j : f ≡ (Add 3, b) = cc at' in (
  inl (refl, subst (λ (x : E). x.1 ≡ sum_after 0 x.0) i l.1, refl, subst (λ (x : E × E). x.1.1 ≡ sum_after (sum_after 0 x.0.0) x.1.0) (λ k. (i k, j k)) l.2.1),
  subst (λ (x : E × E). y ≡ sum_after (sum_after 0 x.0.0) x.1.0) (λ k. (i k, j k)) z,
)
two_of (e ∷ f ∷ []) (suc zero) zero a b y at at' once l z = let i : e ≡ (Add 3, b) = cc at' in let j : f ≡ (Add 2, a) = cc at in (
  inr (refl, subst (λ (x : E × E). x.1.1 ≡ sum_after (sum_after 0 x.0.0) x.1.0) (λ k. (i k, j k)) l.2.1, refl, subst (λ (x : E). x.1 ≡ sum_after 0 x.0) i l.1),
  subst (λ (x : E × E). y ≡ sum_after (sum_after 0 x.0.0) x.1.0) (λ k. (i k, j k)) z,
)
two_of (e ∷ f ∷ []) zero zero a b y at at' once l z = absurd (apart 0 0 2 (once 0) refl)
two_of (e ∷ f ∷ []) (suc p) (suc q) a b y at at' once l z = let i = stands_below (suc p) (suc q) 2 (once (suc p)) in let j = stands_below_too (suc p) (suc q) 2 (once (suc q)) in absurd (apart (suc p) (suc q) 2 (once (suc p)) (omega arith))
two_of (e ∷ f ∷ []) zero (suc (suc q)) a b y at at' once l z = let j = stands_below_too 0 (suc (suc q)) 2 (once (suc (suc q))) in absurd (omega arith)
two_of (e ∷ f ∷ []) (suc (suc p)) zero a b y at at' once l z = let j = stands_below (suc (suc p)) 0 2 (once (suc (suc p))) in absurd (omega arith)
two_of (e ∷ f ∷ g ∷ h) p q a b y at at' once l z = let n : ℕ = length (e ∷ f ∷ g ∷ h) in
    let i = one_of 0 p q n (once 0) (omega arith) in let j = one_of 1 p q n (once 1) (omega arith) in let k = one_of 2 p q n (once 2) (omega arith) in absurd (omega arith)

-- what a legal history leaves whose places are those of two adds, and what each was told
pub two_done : (h s t : List E) (p q a b y : ℕ) → StartsWith h s → StartsWith h t → entries_at s (p ∷ []) ≡ (Add 2, a) ∷ [] → entries_at t (q ∷ []) ≡ (Add 3, b) ∷ [] → ((x : ℕ) → times x (p ∷ q ∷ []) ≡ once_below x (length h))
    → Legal admits allows after 0 h → y ≡ replay after 0 h → InOrder p a q b × (y ≡ 5)
two_done h s t p q a b y u v at at' once l z = two_of h p q a b y
    (subst (λ (k : List E). take 1 (drop p k) ≡ (Add 2, a) ∷ []) (sym u.1) (at_more s u.0 p (Add 2, a) (sym (append-nil (take 1 (drop p s))) ∙ at)))
    (subst (λ (k : List E). take 1 (drop q k) ≡ (Add 3, b) ∷ []) (sym v.1) (at_more t v.0 q (Add 3, b) (sym (append-nil (take 1 (drop q t))) ∙ at'))) once l z

pub starts_trans : (xs ys zs : List E) → StartsWith xs ys → StartsWith ys zs → StartsWith xs zs
starts_trans xs ys zs s t = (t.0 ++ s.0, s.1 ∙ (ap (λ (l : List E). l ++ s.0) t.1 ∙ append_assoc zs t.0 s.0))
