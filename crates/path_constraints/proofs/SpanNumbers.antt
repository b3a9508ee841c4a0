-- The span of a prefix has just the addresses that lie in the prefix.
use Rattle.std.proofs.Common.{◌≡◌, ◌∙◌, ◌<◌, ◌≤◌, ◌+◌, ◌*◌, ◌-◌, ◌/◌, ◌%◌, ◌^◌, ℕ, Bool, cond, min, inl, inr, sym, ap, subst, arith}
use Rattle.std.specs.Prelude.{◌↔◌}
use Rattle.std.proofs.lemmas.Bool.{cases_lt, le-ltb}
use Rattle.std.proofs.lemmas.Nat.{pow_pos, pow-add, shr_split, shr_high, shr_below, le-div, mod_below}
use Rattle.dom_base.specs.Admission.{LiesIn}
use Rattle.dom_base.specs.AddrOrder.{rank}
use Rattle.dom_base.specs.declared.addr.Addr.{Addr}
use Rattle.dom_base.specs.declared.addr.Addr.TheVariants.{V4, V6}
use Rattle.dom_base.proofs.Ranks.{rank_of_v4, rank_of_v6}
use Rattle.path_constraints.specs.Spans.{IsWithin}

-- ---- numbers

module _ (w k p a : ℕ) (short : k ≤ w) (small : p < 2 ^ w) where
  between : a < 2 ^ w → ((p - p % 2 ^ k ≤ a) × (a ≤ min ((p - p % 2 ^ k) + (2 ^ k - 1)) (2 ^ w - 1))) ↔ (a / 2 ^ k ≡ p / 2 ^ k)
  between below = (forth, back)
    where
      forth : (p - p % 2 ^ k ≤ a) × (a ≤ min ((p - p % 2 ^ k) + (2 ^ k - 1)) (2 ^ w - 1)) → a / 2 ^ k ≡ p / 2 ^ k
      forth within =
          let whole = shr_split p k in
          let some = pow_pos k in
          let rest : a - p / 2 ^ k * 2 ^ k < 2 ^ k = omega (arith, whole, some, within.0, within.1) in
          let sum : a ≡ p / 2 ^ k * 2 ^ k + (a - p / 2 ^ k * 2 ^ k) = omega (arith, whole, within.0) in
          ap (λ (n : ℕ). n / 2 ^ k) sum ∙ shr_high (p / 2 ^ k) k (a - p / 2 ^ k * 2 ^ k) rest

      back : a / 2 ^ k ≡ p / 2 ^ k → (p - p % 2 ^ k ≤ a) × (a ≤ min ((p - p % 2 ^ k) + (2 ^ k - 1)) (2 ^ w - 1))
      back same =
          let whole = shr_split p k in
          let whole_a = shr_split a k in
          let heads : a / 2 ^ k * 2 ^ k ≡ p / 2 ^ k * 2 ^ k = ap (λ (n : ℕ). n * 2 ^ k) same in
          let rest = mod_below a (2 ^ k) (pow_pos k) in
          (omega (arith, whole, whole_a, heads), omega (arith, whole, whole_a, heads, rest, below))

  beyond : 2 ^ w ≤ a → a / 2 ^ k ≡ p / 2 ^ k → ⊥
  beyond above same =
      let split : w ≡ (w - k) + k = omega (arith, short) in
      let low : p / 2 ^ k < 2 ^ (w - k) = shr_below p (w - k) k (subst (λ (n : ℕ). p < 2 ^ n) split small) in
      let high : 2 ^ (w - k) ≤ a / 2 ^ k = le-div (2 ^ (w - k)) a (2 ^ k) (pow_pos k) (subst (λ (n : ℕ). n ≤ a) (ap (λ (n : ℕ). 2 ^ n) split ∙ pow-add 2 (w - k) k) above) in
      omega (arith, low, high, same)

-- ---- places of addresses in their order

far_v4 : (n : ℕ) → 2 ^ 32 ≤ n → 2 ^ 129 ≤ rank (V4 n)
unfolding rank
far_v4 n above = subst (λ (b : Bool). 2 ^ 129 ≤ cond b n (2 ^ 129 + 2 * n)) (sym (le-ltb n (2 ^ 32) above)) (omega arith)

far_v6 : (n : ℕ) → 2 ^ 128 ≤ n → 2 ^ 129 ≤ rank (V6 n)
unfolding rank
far_v6 n above = subst (λ (b : Bool). 2 ^ 129 ≤ cond b (2 ^ 32 + n) (2 ^ 129 + 2 * n + 1)) (sym (le-ltb n (2 ^ 128) above)) (omega arith)

behind_v4 : (n : ℕ) → 2 ^ 32 ≤ rank (V6 n)
behind_v4 n = elim (cases_lt n (2 ^ 128)) [
  | inl small ↦ omega (arith, rank_of_v6 n small)
  | inr above ↦ omega (arith, far_v6 n above)
]

-- ---- spans

module _ (p length first last : ℕ) where
  pub span_v4 : p < 2 ^ 32 → first ≡ p - p % 2 ^ (32 - length) → last ≡ min (first + (2 ^ (32 - length) - 1)) (2 ^ 32 - 1) → (a : Addr) → IsWithin a (V4 first, V4 last) ↔ LiesIn a (V4 p) length
  span_v4 small begins ends (V4 n) = elim (cases_lt n (2 ^ 32)) [
    | inl low ↦ (
      λ within.
          let lo : first ≤ n = omega (arith, at_first, rank_of_v4 n low, within.0) in
          let hi : n ≤ last = omega (arith, at_last, rank_of_v4 n low, within.1) in
          (between 32 (32 - length) p n (omega arith) small low).0 (subst (λ (k : ℕ). k ≤ n) begins lo, subst (λ (k : ℕ). n ≤ k) (ends ∙ ap (λ (k : ℕ). min (k + (2 ^ (32 - length) - 1)) (2 ^ 32 - 1)) begins) hi),
      λ lies.
          let both = (between 32 (32 - length) p n (omega arith) small low).1 lies in
          let lo : first ≤ n = subst (λ (k : ℕ). k ≤ n) (sym begins) both.0 in
          let hi : n ≤ last = subst (λ (k : ℕ). n ≤ k) (sym (ends ∙ ap (λ (k : ℕ). min (k + (2 ^ (32 - length) - 1)) (2 ^ 32 - 1)) begins)) both.1 in
          (omega (arith, at_first, rank_of_v4 n low, lo), omega (arith, at_last, rank_of_v4 n low, hi)),
    )
    | inr high ↦ (
      λ within. absurd (omega (arith, at_last, far_v4 n high, below_last, within.1)),
      λ lies. absurd (beyond 32 (32 - length) p n (omega arith) small high lies),
    )
  ]
    where
      below_first : first < 2 ^ 32
      below_first = omega (arith, begins, small)

      below_last : last < 2 ^ 32
      below_last = omega (arith, ends)

      at_first : rank (V4 first) ≡ first
      at_first = rank_of_v4 first below_first

      at_last : rank (V4 last) ≡ last
      at_last = rank_of_v4 last below_last
  span_v4 small begins ends (V6 n) = (λ within. absurd (omega (arith, at_last, behind_v4 n, below_last, within.1)), λ lies. absurd lies)
    where
      below_last : last < 2 ^ 32
      below_last = omega (arith, ends)

      at_last : rank (V4 last) ≡ last
      at_last = rank_of_v4 last below_last

  pub span_v6 : p < 2 ^ 128 → first ≡ p - p % 2 ^ (128 - length) → last ≡ min (first + (2 ^ (128 - length) - 1)) (2 ^ 128 - 1) → (a : Addr) → IsWithin a (V6 first, V6 last) ↔ LiesIn a (V6 p) length
  span_v6 small begins ends (V6 n) = elim (cases_lt n (2 ^ 128)) [
    | inl low ↦ (
      λ within.
          let lo : first ≤ n = omega (arith, at_first, rank_of_v6 n low, within.0) in
          let hi : n ≤ last = omega (arith, at_last, rank_of_v6 n low, within.1) in
          (between 128 (128 - length) p n (omega arith) small low).0 (subst (λ (k : ℕ). k ≤ n) begins lo, subst (λ (k : ℕ). n ≤ k) (ends ∙ ap (λ (k : ℕ). min (k + (2 ^ (128 - length) - 1)) (2 ^ 128 - 1)) begins) hi),
      λ lies.
          let both = (between 128 (128 - length) p n (omega arith) small low).1 lies in
          let lo : first ≤ n = subst (λ (k : ℕ). k ≤ n) (sym begins) both.0 in
          let hi : n ≤ last = subst (λ (k : ℕ). n ≤ k) (sym (ends ∙ ap (λ (k : ℕ). min (k + (2 ^ (128 - length) - 1)) (2 ^ 128 - 1)) begins)) both.1 in
          (omega (arith, at_first, rank_of_v6 n low, lo), omega (arith, at_last, rank_of_v6 n low, hi)),
    )
    | inr high ↦ (
      λ within. absurd (omega (arith, at_last, far_v6 n high, below_last, within.1)),
      λ lies. absurd (beyond 128 (128 - length) p n (omega arith) small high lies),
    )
  ]
    where
      below_first : first < 2 ^ 128
      below_first = omega (arith, begins, small)

      below_last : last < 2 ^ 128
      below_last = omega (arith, ends)

      at_first : rank (V6 first) ≡ 2 ^ 32 + first
      at_first = rank_of_v6 first below_first

      at_last : rank (V6 last) ≡ 2 ^ 32 + last
      at_last = rank_of_v6 last below_last
  span_v6 small begins ends (V4 n) = (never, λ lies. absurd lies)
    where
      below_first : first < 2 ^ 128
      below_first = omega (arith, begins, small)

      below_last : last < 2 ^ 128
      below_last = omega (arith, ends)

      never : IsWithin (V4 n) (V6 first, V6 last) → ⊥
      never within = elim (cases_lt n (2 ^ 32)) [
        | inl low ↦ omega (arith, rank_of_v4 n low, rank_of_v6 first below_first, low, within.0)
        | inr high ↦ omega (arith, far_v4 n high, rank_of_v6 last below_last, below_last, within.1)
      ]
