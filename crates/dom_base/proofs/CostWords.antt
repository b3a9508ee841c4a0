-- The word of a cost has the cost as its value, no other word has, and it is read again.
use Rattle.std.proofs.Common.{◌≡◌, ◌≤◌, ◌<◌, ◌^◌, ◌+◌, ◌-◌, ◌*◌, ◌/◌, ◌%◌, ℕ, zero, suc, Bool, true, false, cond, ◌==◌, min, Some, inl, inr, sym, ◌∙◌, ap, subst, refl, arith, lit<}
use Rattle.std.specs.Prelude.{nat_lt}
use Rattle.std.proofs.lemmas.Bool.{le-leb, lt-leb, ltb-true, ltb-false, le-ltb, ne_eqb, eqb-true, eqb-false, cases_order, cases_lt}
use Rattle.std.proofs.lemmas.Nat.{pow-add, div-mul-add, mod-mul-add}
use Rattle.std.proofs.Math.Nat.{mul-le-mul_right, mul-lt-mul_of_pos_right, pow-le-pow_right, pow-succ', one-le-pow, mod-eq_of_lt, div-eq_of_lt-le, min-eq_left, mul_assoc, mul-suc}
use Rattle.dom_base.specs.declared.limits.TheConstants.{COST_MAX}
use Rattle.dom_base.specs.Words.{units, rounded_up, HasValue, high_bit_by, high_bit, word_of}

-- ---- the highest bit

abbrev IsTop : ℕ → ℕ → Type 0
IsTop h n = (2 ^ h ≤ n) × (n < 2 ^ suc h)

twice : (k : ℕ) → 2 ^ suc k ≡ 2 * 2 ^ k
twice k = pow-succ' 2 k

halves : (k n : ℕ) → n < 2 ^ suc (suc k) → n / 2 < 2 ^ suc k
halves k n lt = omega (arith, twice (suc k))

doubles : (h n : ℕ) → IsTop h (n / 2) → IsTop (suc h) n
doubles h n is = (omega (arith, twice h, is.0), omega (arith, twice (suc h), is.1))

top_is : (steps n : ℕ) → 1 ≤ n → n < 2 ^ suc steps → IsTop (high_bit_by steps n) n
top_is zero n some less = (some, less)
top_is (suc steps) n some less = go (nat_lt n 2) refl (λ s. top_is steps (n / 2) s (halves steps n less))
  where
    go : (b : Bool) → nat_lt n 2 ≡ b → (1 ≤ n / 2 → IsTop (high_bit_by steps (n / 2)) (n / 2)) → IsTop (cond b 0 (suc (high_bit_by steps (n / 2)))) n
    go true is more = (some, ltb-true n 2 is)
    go false is more = let two : 2 ≤ n = ltb-false n 2 is in doubles (high_bit_by steps (n / 2)) n (more (omega arith))

pow_mono : (i j : ℕ) → i ≤ j → 2 ^ i ≤ 2 ^ j
pow_mono i j le = pow-le-pow_right {n = 2} (lit< tt) {i = i} {j = j} le

-- one number alone is the place of the highest bit
tops_agree : (h k n : ℕ) → IsTop h n → IsTop k n → h ≡ k
tops_agree h k n a b = elim (cases_order h k) [
  | inl same ↦ same
  | inr (inl less) ↦ absurd (omega (arith, pow_mono (suc h) k less, a.1, b.0))
  | inr (inr less) ↦ absurd (omega (arith, pow_mono (suc k) h less, b.1, a.0))
]

-- ---- the word

-- a mantissa, whose highest bit is not written
record IsShifted (h n m : ℕ) : Type 0 where
  is : n * 2 ^ (23 - h) ≡ m
  low : 2 ^ 23 ≤ m
  high : m < 2 ^ 24

shifted : (h n : ℕ) → h ≤ 23 → IsTop h n → IsShifted h n (n * 2 ^ (23 - h))
shifted h n le top =
    let p = 2 ^ (23 - h) in
    let some : 1 ≤ p = one-le-pow (23 - h) 2 (lit< tt) in
    let sum : h + (23 - h) ≡ 23 = omega arith in
    let more : suc h + (23 - h) ≡ 24 = omega arith in
    let all : 2 ^ h * p ≡ 2 ^ 23 = sym (pow-add 2 h (23 - h)) ∙ ap (λ k. 2 ^ k) sum in
    let next : 2 ^ suc h * p ≡ 2 ^ 24 = sym (pow-add 2 (suc h) (23 - h)) ∙ ap (λ k. 2 ^ k) more in
    let low : 2 ^ h * p ≤ n * p = mul-le-mul_right {m = 2 ^ h} {n = n} p top.0 in
    let high : n * p < 2 ^ suc h * p = mul-lt-mul_of_pos_right {m = n} {n = 2 ^ suc h} {k = p} top.1 some in
    record { is = refl; low = omega (arith, all, low); high = omega (arith, next, high) }

-- a word by its two fields
units_by : (w e f n : ℕ) → w / 2 ^ 23 ≡ e → w % 2 ^ 23 ≡ f → w < 2 ^ 31 → 1 ≤ e → e < 255 → rounded_up (2 ^ 23 + f) e ≡ n → n ≤ 2 ^ 63 → units w ≡ Some n
units_by w e f n at_e at_f fits some few is most =
    rw (le-ltb (2 ^ 31) w (omega arith), ne_eqb (w / 2 ^ 23) 255 (λ h. absurd (omega (arith, h, at_e))), mod-eq_of_lt {n = w} {m = 2 ^ 31} fits, ne_eqb (w / 2 ^ 23) 0 (λ h. absurd (omega (arith, h, at_e))), at_e, at_f)
    (ap (λ k. Some (min k (2 ^ 63))) is ∙ ap (λ k. Some k) (min-eq_left {n = n} {m = 2 ^ 63} most))

rounds : (h n m : ℕ) → h ≤ 23 → IsShifted h n m → rounded_up m (127 + h) ≡ n
rounds h n m le is = elim (cases_lt h 23) [
  | inl less ↦ below less
  | inr most ↦ at_most (omega arith)
]
  where
    exact : (p : ℕ) → 1 ≤ p → n * p ≡ m → (m + p - 1) / p ≡ n
    exact p some e = div-eq_of_lt-le {k = n} p {m = m + p - 1} (omega (arith, e, some)) (omega (arith, e, some))

    below : h < 23 → rounded_up m (127 + h) ≡ n
    below less =
        let k : 150 - (127 + h) ≡ 23 - h = omega arith in
        rw (lt-leb 150 (127 + h) (omega arith), k) (exact (2 ^ (23 - h)) (one-le-pow (23 - h) 2 (lit< tt)) is.is)

    at_most : h ≡ 23 → rounded_up m (127 + h) ≡ n
    at_most e =
        let none : 127 + h - 150 ≡ 0 = omega arith in
        let gone : 23 - h ≡ 0 = omega arith in
        let one : n * 2 ^ (23 - h) ≡ n * 2 ^ 0 = ap (λ k. n * 2 ^ k) gone in
        rw (le-leb 150 (127 + h) (omega arith), none) (omega (arith, is.is, one))

high_fits : (n : ℕ) → n ≤ 16777215 → (h : ℕ) → IsTop h n → h ≤ 23
high_fits n le h top = elim (cases_lt 23 h) [
  | inl more ↦ absurd (omega (arith, pow_mono 24 h more, top.0))
  | inr fits ↦ fits
]

cost_by : (n h : ℕ) → n ≤ 16777215 → IsTop h n → units ((127 + h) * 2 ^ 23 + (n * 2 ^ (23 - h) - 2 ^ 23)) ≡ Some n
cost_by n h le top =
    let fits = high_fits n le h top in
    let m = n * 2 ^ (23 - h) in
    let f = m - 2 ^ 23 in
    let s = shifted h n fits top in
    let less : f < 2 ^ 23 = omega (arith, s.low, s.high) in
    let back : 2 ^ 23 + f ≡ m = omega (arith, s.low) in
    units_by ((127 + h) * 2 ^ 23 + f) (127 + h) f n (div-mul-add (127 + h) (2 ^ 23) f less) (mod-mul-add (127 + h) (2 ^ 23) f less) (omega (arith, less, fits)) (omega arith) (omega (arith, fits))
    (ap (λ k. rounded_up k (127 + h)) back ∙ rounds h n m fits s) (omega (arith, le))

pub cost_again : (n : ℕ) → n ≤ COST_MAX → units (word_of n) ≡ Some n
cost_again n le = go (n == 0) refl
  where
    go : (b : Bool) → (n == 0) ≡ b → units (cond b 0 ((127 + high_bit n) * 2 ^ 23 + (n * 2 ^ (23 - high_bit n) - 2 ^ 23))) ≡ Some n
    go true is = ap (λ k. Some k) (sym (eqb-true n 0 is))
    go false is =
        let some : 1 ≤ n = positive n (eqb-false n 0 is) in
        cost_by n (high_bit n) le (top_is 24 n some (omega (arith, le)))
      where
        positive : (k : ℕ) → (k ≡ 0 → ⊥) → 1 ≤ k
        positive k h = omega arith

-- ---- the only word

scaled : (h k n : ℕ) → IsTop h n → IsTop (h + k) (n * 2 ^ k)
scaled h k n top =
    let some : 1 ≤ 2 ^ k = one-le-pow k 2 (lit< tt) in
    let low : 2 ^ h * 2 ^ k ≤ n * 2 ^ k = mul-le-mul_right {m = 2 ^ h} {n = n} (2 ^ k) top.0 in
    let high : n * 2 ^ k < 2 ^ suc h * 2 ^ k = mul-lt-mul_of_pos_right {m = n} {n = 2 ^ suc h} {k = 2 ^ k} top.1 some in
    let swap : suc h + k ≡ suc (h + k) = omega arith in
    let next : 2 ^ suc h * 2 ^ k ≡ 2 ^ suc (h + k) = sym (pow-add 2 (suc h) k) ∙ ap (λ j. 2 ^ j) swap in
    (omega (arith, pow-add 2 h k, low), omega (arith, next, high))

-- a factor is taken away on both sides
cancels : (a b p : ℕ) → 1 ≤ p → a * p ≡ b * p → a ≡ b
cancels a b p some e = elim (cases_order a b) [
  | inl same ↦ same
  | inr (inl less) ↦ absurd (omega (arith, e, mul-lt-mul_of_pos_right {m = a} {n = b} {k = p} less some))
  | inr (inr more) ↦ absurd (omega (arith, e, mul-lt-mul_of_pos_right {m = b} {n = a} {k = p} more some))
]

-- a mantissa with an exponent
is_word : (h n m e : ℕ) → h ≤ 23 → IsTop h n → IsTop 23 m → m * 2 ^ e ≡ n * 2 ^ 150 → (e ≡ 127 + h) × (m ≡ n * 2 ^ (23 - h))
is_word h n m e le top normal same =
    let both : 23 + e ≡ h + 150 = tops_agree (23 + e) (h + 150) (n * 2 ^ 150) (moved (m * 2 ^ e) (n * 2 ^ 150) same (scaled 23 e m normal)) (scaled h 150 n top) in
    let is : e ≡ 127 + h = omega (arith, both) in
    let sum : 150 ≡ 23 - h + e = omega (arith, both, le) in
    let split : 2 ^ 150 ≡ 2 ^ (23 - h) * 2 ^ e = ap (λ j. 2 ^ j) sum ∙ pow-add 2 (23 - h) e in
    let grouped : m * 2 ^ e ≡ n * 2 ^ (23 - h) * 2 ^ e = same ∙ ap (λ p. n * p) split ∙ sym (mul_assoc n (2 ^ (23 - h)) (2 ^ e)) in
    (is, cancels m (n * 2 ^ (23 - h)) (2 ^ e) (one-le-pow e 2 (lit< tt)) grouped)
  where
    moved : (a b : ℕ) → a ≡ b → IsTop (23 + e) a → IsTop (23 + e) b
    moved a b same' top' = subst (λ (k : ℕ). IsTop (23 + e) k) same' top'

pub one_word : (word n : ℕ) → n ≤ COST_MAX → HasValue word n → word ≡ word_of n
one_word word n le has = go (word / 2 ^ 23 == 0) refl (n == 0) refl has.value
  where
    e : ℕ
    e = word / 2 ^ 23

    f : ℕ
    f = word % 2 ^ 23

    no_such : (p : ℕ) → 1 ≤ p → (2 ^ 23 + f) * p ≡ 0 → ⊥
    no_such zero some is = omega arith
    no_such (suc p) some is = omega (arith, mul-suc (2 ^ 23 + f) p, is)

    positive : (k : ℕ) → (k ≡ 0 → ⊥) → 1 ≤ k
    positive k h = omega arith

    go : (a : Bool) → (word / 2 ^ 23 == 0) ≡ a → (b : Bool) → (n == 0) ≡ b → cond a f (2 ^ 23 + f) * 2 ^ cond a 1 e ≡ n * 2 ^ 150 →
        word ≡ cond b 0 ((127 + high_bit n) * 2 ^ 23 + (n * 2 ^ (23 - high_bit n) - 2 ^ 23))
    go true is true is' value =
        let none : n ≡ 0 = eqb-true n 0 is' in
        let zero_e : word / 2 ^ 23 ≡ 0 = eqb-true (word / 2 ^ 23) 0 is in
        omega (arith, value, none, zero_e)
    go true is false is' value =
        let some : 1 ≤ n = positive n (eqb-false n 0 is') in
        absurd (omega (arith, value, some))
    go false is true is' value =
        let none : n * 2 ^ 150 ≡ 0 = ap (λ k. k * 2 ^ 150) (eqb-true n 0 is') in
        absurd (no_such (2 ^ e) (one-le-pow e 2 (lit< tt)) (value ∙ none))
    go false is false is' value =
        let some : 1 ≤ n = positive n (eqb-false n 0 is') in
        let top = top_is 24 n some (omega (arith, le)) in
        let h = high_bit n in
        let fits = high_fits n le h top in
        let normal : IsTop 23 (2 ^ 23 + f) = (omega arith, omega arith) in
        let both = is_word h n (2 ^ 23 + f) e fits top normal value in
        whole h (n * 2 ^ (23 - h)) both.0 both.1
      where
        whole : (h m : ℕ) → e ≡ 127 + h → 2 ^ 23 + f ≡ m → word ≡ (127 + h) * 2 ^ 23 + (m - 2 ^ 23)
        whole h m at_e at_m = omega (arith, at_e, at_m)
