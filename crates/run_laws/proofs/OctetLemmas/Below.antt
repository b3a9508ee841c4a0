-- Sums over all numbers below a bound, and what is more or less of them where one is.
use Rattle.std.proofs.Common.{◌≡◌, ◌≤◌, ◌<◌, ◌+◌, ◌==◌, ℕ, zero, suc, false, sym, subst, inl, inr, arith}
use Rattle.std.proofs.Math.Nat.{le_refl}
use Rattle.std.proofs.lemmas.Bool.{cases_Bool, eqb-true, eqb-false, ne_eqb}

abbrev pub below : (ℕ → ℕ) → ℕ → ℕ
below f zero = 0
below f (suc k) = f k + below f k

pub below_le : (f g : ℕ → ℕ) → ((i : ℕ) → f i ≤ g i) → (k : ℕ) → below f k ≤ below g k
below_le f g each zero = omega arith
below_le f g each (suc k) = let one = each k in let more = below_le f g each k in omega (arith, one, more)

pub below_none : (f : ℕ → ℕ) → ((i : ℕ) → f i ≡ 0) → (k : ℕ) → below f k ≡ 0
below_none f each zero = omega arith
below_none f each (suc k) = let one = each k in let more = below_none f each k in omega (arith, one, more)

-- what is below one is not that one
below_apart : (f g : ℕ → ℕ) (i : ℕ) → ((j : ℕ) → (i == j) ≡ false → f j ≤ g j) → (k : ℕ) → k ≤ i → below f k ≤ below g k
below_apart f g i others zero le = omega arith
below_apart f g i others (suc k) le =
    let one = others k (ne_eqb i k (λ is. omega (arith, le, is))) in
    let more = below_apart f g i others k (omega (arith, le)) in
    omega (arith, one, more)

-- one of them is so much more
pub below_more : (f g : ℕ → ℕ) (i w : ℕ) → ((j : ℕ) → (i == j) ≡ false → f j ≤ g j) → f i ≤ g i + w → (k : ℕ) → below f k ≤ below g k + w
below_more f g i w others here zero = omega arith
below_more f g i w others here (suc k) = elim (cases_Bool (i == k)) [
  | inl hit ↦
      let is : i ≡ k = eqb-true i k hit in
      let one : f k ≤ g k + w = subst (λ (z : ℕ). f z ≤ g z + w) is here in
      let rest = below_apart f g i others k (omega (arith, is)) in
      omega (arith, one, rest)
  | inr miss ↦ let one = others k miss in let rest = below_more f g i w others here k in omega (arith, one, rest)
]

-- one of them is so much less
pub below_less : (f g : ℕ → ℕ) (i w : ℕ) → ((j : ℕ) → f j ≤ g j) → f i + w ≤ g i → (k : ℕ) → i < k → below f k + w ≤ below g k
below_less f g i w each here zero less = absurd (omega (arith, less))
below_less f g i w each here (suc k) less = elim (cases_Bool (i == k)) [
  | inl hit ↦
      let is : i ≡ k = eqb-true i k hit in
      let one : f k + w ≤ g k = subst (λ (z : ℕ). f z + w ≤ g z) is here in
      let rest = below_le f g each k in
      omega (arith, one, rest)
  | inr miss ↦
      let apart = eqb-false i k miss in
      let one = each k in
      let rest = below_less f g i w each here k (omega (arith, less, apart)) in
      omega (arith, one, rest)
]

-- those below a greater bound are more
pub below_grows : (f : ℕ → ℕ) (k l : ℕ) → k ≤ l → below f k ≤ below f l
below_grows f k zero le = let is : k ≡ 0 = omega (arith, le) in subst (λ (z : ℕ). below f z ≤ 0) (sym is) (omega arith)
below_grows f k (suc l) le = elim (cases_Bool (k == suc l)) [
  | inl hit ↦ subst (λ (z : ℕ). below f k ≤ below f z) (eqb-true k (suc l) hit) (le_refl (below f k))
  | inr miss ↦
      let apart = eqb-false k (suc l) miss in
      let rest = below_grows f k l (omega (arith, le, apart)) in
      omega (arith, rest)
]
