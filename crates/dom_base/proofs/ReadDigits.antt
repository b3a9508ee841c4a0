-- Digits from the left, one at a time.
use Rattle.std.proofs.Common.{◌≡◌, ℕ, zero, suc, ◌+◌, ◌*◌, ◌^◌, ◌<◌, ◌≤◌, ltb, Bool, true, false, cond, ◌&&◌, List, [], ◌∷◌, length, drop, get_or, Option, Some, None, refl, sym, ap, ◌∙◌, arith}
use Rattle.std.proofs.lemmas.Bool.{lt-ltb, le-ltb}
use Rattle.std.proofs.lemmas.List.{at_drop_more}
use Rattle.std.specs.Char.{digit_value}
use Rattle.std.specs.List.{list_all}
use Rattle.std.specs.Str.Parse.{digits_value_after}
use Rattle.dom_base.specs.Numerals.{value, is_numeral}
use Rattle.dom_base.proofs.NumeralLaws.{value_is}

abbrev pub are_digits : ℕ → List ℕ → Bool
are_digits base = list_all (λ c. ltb (digit_value c) base)

-- what the digits behind a number make of it, in 64 bits
abbrev pub onward : ℕ → ℕ → List ℕ → Option ℕ
onward base n digits = cond (are_digits base digits && ltb (digits_value_after base n digits) (2 ^ 64)) (Some (digits_value_after base n digits)) None

pub digit_on : (base n c : ℕ) (digits : List ℕ) → digit_value c < base → onward base n (c ∷ digits) ≡ onward base (n * base + digit_value c) digits
digit_on base n c digits lt = rw (lt-ltb (digit_value c) base lt) refl

pub no_digit : (base n c : ℕ) (digits : List ℕ) → base ≤ digit_value c → onward base n (c ∷ digits) ≡ None
no_digit base n c digits le = rw (le-ltb (digit_value c) base le) refl

grows : (n b d : ℕ) → 1 ≤ b → n ≤ n * b + d
grows n zero d some = absurd (omega arith)
grows n (suc b) d some = omega (arith, products n b)
  where
    products : (n b : ℕ) → n * suc b ≡ n + n * b
    products n b = omega arith

at_least : (base n : ℕ) (digits : List ℕ) → 1 ≤ base → n ≤ digits_value_after base n digits
at_least base n [] some = omega arith
at_least base n (c ∷ digits) some = omega (arith, at_least base (n * base + digit_value c) digits some, grows n base (digit_value c) some)

pub too_large : (base n : ℕ) (digits : List ℕ) → 1 ≤ base → 2 ^ 64 ≤ n → onward base n digits ≡ None
too_large base n digits some le =
    rw (le-ltb (digits_value_after base n digits) (2 ^ 64) (omega (arith, at_least base n digits some))) (stuck (are_digits base digits))
  where
    stuck : (b : Bool) → cond (b && false) (Some (digits_value_after base n digits)) None ≡ None
    stuck true = refl
    stuck false = refl

pub at_end : (base n : ℕ) → n < 2 ^ 64 → onward base n [] ≡ Some n
at_end base n small = rw (lt-ltb n (2 ^ 64) small) refl

-- the number of a whole word, and none of an empty one
pub whole : (base : ℕ) (word : List ℕ) → 1 ≤ length word → onward base 0 word ≡ cond (is_numeral base word && ltb (value base word) (2 ^ 64)) (Some (value base word)) None
whole base word some = rw (value_is base word, lt-ltb 0 (length word) some) refl

-- ---- at a place of a word

pub too_large_at : (base n : ℕ) (word : List ℕ) (i x d : ℕ) → 1 ≤ base → i < length word → onward base n (drop i word) ≡ onward base 0 word
    → x ≡ get_or word i 0 → digit_value x < base → digit_value x ≡ d → 2 ^ 64 ≤ n * base + d
    → cond (is_numeral base word && ltb (value base word) (2 ^ 64)) (Some (value base word)) None ≡ None
too_large_at base n word i x d some within so_far here digit is large =
    let value_here : 2 ^ 64 ≤ n * base + digit_value x = omega (arith, large, is) in
    sym (whole base word (omega arith)) ∙ sym so_far ∙ at_drop_more (onward base n) word i 0 within
    ∙ ap (λ y. onward base n (y ∷ drop (i + 1) word)) (sym here)
    ∙ digit_on base n x (drop (i + 1) word) digit
    ∙ too_large base (n * base + digit_value x) (drop (i + 1) word) some value_here

pub further_at : (base n : ℕ) (word : List ℕ) (i x d : ℕ) → i < length word → onward base n (drop i word) ≡ onward base 0 word
    → x ≡ get_or word i 0 → digit_value x < base → digit_value x ≡ d
    → onward base (n * base + d) (drop (i + 1) word) ≡ onward base 0 word
further_at base n word i x d within so_far here digit is =
    ap (λ y. onward base (n * base + y) (drop (i + 1) word)) (sym is)
    ∙ sym (digit_on base n x (drop (i + 1) word) digit)
    ∙ ap (λ y. onward base n (y ∷ drop (i + 1) word)) here
    ∙ sym (at_drop_more (onward base n) word i 0 within)
    ∙ so_far
