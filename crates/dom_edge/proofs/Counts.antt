-- Counts that go on by more than one.
use Rattle.std.proofs.Common.{◌≡◌, ◌∙◌, ◌+◌, ℕ, zero, suc, ap, arith, refl, subst}
use Rattle.dom_edge.specs.Causes.{counted_on, next_count}

-- one more behind so many
pub counted_more : (k n : ℕ) → counted_on (k + 1) n ≡ next_count (counted_on k n)
counted_more k n = let same : suc k ≡ k + 1 = omega arith in subst (λ (j : ℕ). counted_on j n ≡ next_count (counted_on k n)) same refl

-- so many, and behind them so many others
pub counted_behind : (k j n : ℕ) → counted_on (k + j) n ≡ counted_on k (counted_on j n)
counted_behind zero j n = let same : 0 + j ≡ j = omega arith in ap (λ (i : ℕ). counted_on i n) same
counted_behind (suc k) j n = let same : suc k + j ≡ suc (k + j) = omega arith in ap (λ (i : ℕ). counted_on i n) same ∙ ap next_count (counted_behind k j n)
