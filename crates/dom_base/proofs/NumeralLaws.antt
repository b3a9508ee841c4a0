-- Numbers that were written in digits are read again.
use Rattle.std.proofs.Common.{lit≤, ◌≡◌, ℕ, ◌+◌, ◌*◌, ◌^◌, ◌<◌, ◌≤◌, ltb, leb, eqb, Bool, true, false, cond, ◌&&◌, List, [], ◌∷◌, length, Option, Some, None, refl, sym, ap, ◌∙◌, arith, map, ◌/◌, ◌%◌}
use Rattle.std.proofs.Math.Nat.{pow-zero, pow-succ', pow-le-pow_right}
use Rattle.std.proofs.lemmas.Bool.{lt-ltb, le-leb, lt-leb, ltb-true, leb-true, and_from, and_parts, ne_eqb, eq-eqb, false≢true}
use Rattle.std.proofs.lemmas.Fmt.{decimal_is_IsNumeral}
use Rattle.std.specs.Fmt.{decimal}
use Rattle.std.specs.Char.{digit_value, digit_char}
use Rattle.std.specs.List.{list_all, AllByRecursion}
use Rattle.std.proofs.lemmas.List.{length-map}
use Rattle.std.proofs.lemmas.Bool.Decides.{nat_tests}
use Rattle.std.proofs.lemmas.Int.Digits.{digits_value-lt}
use Rattle.std.specs.Str.Parse.{digits_value, digits_value_after, AllDigits}
use Rattle.dom_base.specs.Numerals.{value, is_numeral, number_in, colour_in, colour_text}
use Rattle.dom_base.specs.AddrText.{group_in, group_text}

step : (n b p d v : ℕ) → (n * b + d) * p + v ≡ n * (b * p) + (d * p + v)
step n b p d v = omega arith

-- digits behind a number move it up by their places
pub value_after : (base n : ℕ) (digits : List ℕ) → digits_value_after base n digits ≡ n * base ^ length digits + value base digits
value_after base n [] = rw (pow-zero base) (omega arith)
value_after base n (c ∷ digits) =
    value_after base (n * base + digit_value c) digits
    ∙ step n base (base ^ length digits) (digit_value c) (value base digits)
    ∙ ap (λ p. n * p + (digit_value c * base ^ length digits + value base digits)) (sym (pow-succ' base (length digits)))

pub value_is : (base : ℕ) (digits : List ℕ) → digits_value base digits ≡ value base digits
value_is base digits = value_after base 0 digits ∙ none (base ^ length digits) (value base digits)
  where
    none : (p v : ℕ) → 0 * p + v ≡ v
    none p v = omega arith

pub all_digits : (base : ℕ) (digits : List ℕ) → AllDigits base digits → list_all (λ c. ltb (digit_value c) base) digits ≡ true
all_digits base [] h = refl
all_digits base (c ∷ digits) h = and_from (ltb (digit_value c) base) (list_all (λ c. ltb (digit_value c) base) digits) (lt-ltb (digit_value c) base h.0) (all_digits base digits h.1)

-- what holds of a numeral of a value that fits
pub number_is : (most n : ℕ) (word : List ℕ) → is_numeral 10 word ≡ true → value 10 word ≡ n → n ≤ most → number_in most word ≡ Some n
unfolding number_in
number_is most n word shape is fits = rw (shape, is, le-leb n most fits) refl

pub decimal_shape : (n : ℕ) → n < 2 ^ 64 → is_numeral 10 (decimal n) ≡ true
decimal_shape n small =
    let h = decimal_is_IsNumeral n small in
    and_from (ltb 0 (length (decimal n))) (list_all (λ c. ltb (digit_value c) 10) (decimal n)) (lt-ltb 0 (length (decimal n)) h.0.0) (all_digits 10 (decimal n) h.0.1)

pub decimal_value : (n : ℕ) → n < 2 ^ 64 → value 10 (decimal n) ≡ n
decimal_value n small = sym (value_is 10 (decimal n)) ∙ (decimal_is_IsNumeral n small).1

pub number_again : (n : ℕ) → n < 2 ^ 64 → (most : ℕ) → n ≤ most → number_in most (decimal n) ≡ Some n
number_again n small most fits = number_is most n (decimal n) (decimal_shape n small) (decimal_value n small) fits

-- ---- a numeral, and whether it fits

none_at : (b t u : Bool) (v : ℕ) → (u ≡ true → t ≡ true) → cond (b && t) (Some v) None ≡ None → cond (b && u) (Some v) None ≡ None
none_at false t u v within e = refl
none_at true true u v within e = absurd (cc)
none_at true false true v within e = absurd (false≢true (within refl))
none_at true false false v within e = refl

some_parts : (b t : Bool) (v n : ℕ) → cond (b && t) (Some v) None ≡ Some n → (b ≡ true) × (t ≡ true) × (v ≡ n)
some_parts false t v n e = absurd (cc)
some_parts true false v n e = absurd (cc)
some_parts true true v n e = (refl, refl, cc)

-- the number of a numeral in 64 bits
abbrev pub wide : ℕ → List ℕ → Option ℕ
wide base word = cond (is_numeral base word && ltb (value base word) (2 ^ 64)) (Some (value base word)) None

pub none_in : (most : ℕ) (word : List ℕ) → most < 2 ^ 64 → wide 10 word ≡ None → number_in most word ≡ None
unfolding number_in
none_in most word small e =
    none_at (is_numeral 10 word) (ltb (value 10 word) (2 ^ 64)) (leb (value 10 word) most) (value 10 word) (λ h. lt-ltb (value 10 word) (2 ^ 64) (omega (arith, leb-true (value 10 word) most h))) e

pub some_in : (most n : ℕ) (word : List ℕ) → wide 10 word ≡ Some n → n ≤ most → number_in most word ≡ Some n
some_in most n word e fits =
    let parts = some_parts (is_numeral 10 word) (ltb (value 10 word) (2 ^ 64)) (value 10 word) n e in
    number_is most n word parts.0 parts.2 fits

pub above_in : (most n : ℕ) (word : List ℕ) → wide 10 word ≡ Some n → most < n → number_in most word ≡ None
unfolding number_in
above_in most n word e above =
    let parts = some_parts (is_numeral 10 word) (ltb (value 10 word) (2 ^ 64)) (value 10 word) n e in
    rw (parts.0, parts.2, lt-leb n most above) refl

-- ---- colours

digits_all : (base : ℕ) (digits : List ℕ) → list_all (λ c. ltb (digit_value c) base) digits ≡ true → AllDigits base digits
digits_all base [] h = tt
digits_all base (c ∷ digits) h =
    let parts = and_parts (ltb (digit_value c) base) (list_all (λ c. ltb (digit_value c) base) digits) h in
    (ltb-true (digit_value c) base parts.0, digits_all base digits parts.1)

value_lt : (word : List ℕ) → length word ≡ 8 → is_numeral 16 word ≡ true → value 16 word < 2 ^ 32
value_lt word eight shape =
    let parts = and_parts (ltb 0 (length word)) (list_all (λ c. ltb (digit_value c) 16) word) shape in
    let below = digits_value-lt 16 word (digits_all 16 word parts.1) in
    rw (value_is 16 word, eight) at below

colour_if : (word : List ℕ) (b t : Bool) → is_numeral 16 word ≡ b → eqb (length word) 8 ≡ t → colour_in word ≡ cond (b && t) (Some (value 16 word)) None
unfolding colour_in
colour_if word b t p q = ap (λ x. cond (x && eqb (length word) 8) (Some (value 16 word)) None) p ∙ ap (λ x. cond (b && x) (Some (value 16 word)) None) q

wide_of : (word : List ℕ) → is_numeral 16 word ≡ true → value 16 word < 2 ^ 64 → wide 16 word ≡ Some (value 16 word)
wide_of word shape small =
    ap (λ x. cond (x && ltb (value 16 word) (2 ^ 64)) (Some (value 16 word)) None) shape ∙ ap (λ x. cond (true && x) (Some (value 16 word)) None) (lt-ltb (value 16 word) (2 ^ 64) small)

pub colour_none : (word : List ℕ) → length word ≡ 8 → wide 16 word ≡ None → colour_in word ≡ None
colour_none word eight e = apart (is_numeral 16 word) refl
  where
    apart : (b : Bool) → is_numeral 16 word ≡ b → colour_in word ≡ None
    apart false h = colour_if word false true h (eq-eqb (length word) 8 eight)
    apart true h =
        let some : wide 16 word ≡ Some (value 16 word) = wide_of word h (omega (arith, value_lt word eight h)) in
        absurd (cc)

pub colour_some : (n : ℕ) (word : List ℕ) → length word ≡ 8 → wide 16 word ≡ Some n → (n < 2 ^ 32) × (colour_in word ≡ Some n)
colour_some n word eight e =
    let parts = some_parts (is_numeral 16 word) (ltb (value 16 word) (2 ^ 64)) (value 16 word) n e in
    let below : value 16 word < 2 ^ 32 = value_lt word eight parts.0 in
    let same : value 16 word ≡ n = parts.2 in
    (omega arith, colour_if word true true parts.0 (eq-eqb (length word) 8 eight) ∙ ap Some same)

pub colour_length : (word : List ℕ) → (length word ≡ 8 → ⊥) → colour_in word ≡ None
colour_length word other = colour_if word (is_numeral 16 word) false refl (ne_eqb (length word) 8 other) ∙ stuck (is_numeral 16 word)
  where
    stuck : (b : Bool) → cond (b && false) (Some (value 16 word)) None ≡ None
    stuck true = refl
    stuck false = refl

char_value : (d : ℕ) → d < 16 → digit_value (digit_char d) ≡ d
char_value d small = grind (arith, nat_tests)

abbrev pub weights : List ℕ → ℕ
weights [] = 0
weights (d ∷ ds) = d * 16 ^ length ds + weights ds

pub spelled_digits : (ds : List ℕ) → AllByRecursion (λ d. d < 16) ds → list_all (λ c. ltb (digit_value c) 16) (map digit_char ds) ≡ true
spelled_digits [] h = refl
spelled_digits (d ∷ ds) h =
    rw (char_value d h.0, lt-ltb d 16 h.0) (spelled_digits ds h.1)

pub spelled_value : (ds : List ℕ) → AllByRecursion (λ d. d < 16) ds → value 16 (map digit_char ds) ≡ weights ds
spelled_value [] h = refl
spelled_value (d ∷ ds) h =
    rw (char_value d h.0, length-map ds digit_char, spelled_value ds h.1) refl

octets : (n : ℕ) → n < 2 ^ 32 → weights (n / 16777216 % 256 / 16 ∷ n / 16777216 % 256 % 16 ∷ n / 65536 % 256 / 16 ∷ n / 65536 % 256 % 16 ∷ n / 256 % 256 / 16 ∷ n / 256 % 256 % 16 ∷ n % 256 / 16 ∷ n % 256 % 16 ∷ []) ≡ n
octets n small = omega arith

pub colour_again : (n : ℕ) → n < 2 ^ 32 → colour_in (colour_text n) ≡ Some n
unfolding colour_in colour_text
colour_again n small =
    let ds : List ℕ = n / 16777216 % 256 / 16 ∷ n / 16777216 % 256 % 16 ∷ n / 65536 % 256 / 16 ∷ n / 65536 % 256 % 16 ∷ n / 256 % 256 / 16 ∷ n / 256 % 256 % 16 ∷ n % 256 / 16 ∷ n % 256 % 16 ∷ [] in
    let below : AllByRecursion (λ d. d < 16) ds = (omega arith, (omega arith, (omega arith, (omega arith, (omega arith, (omega arith, (omega arith, (omega arith, tt)))))))) in
    rw (spelled_digits ds below, spelled_value ds below, octets n small) refl

-- ---- what a number that was read tells of its word

number_parts : (most n : ℕ) (word : List ℕ) → number_in most word ≡ Some n → (is_numeral 10 word ≡ true) × (leb (value 10 word) most ≡ true) × (value 10 word ≡ n)
unfolding number_in
number_parts most n word e = some_parts (is_numeral 10 word) (leb (value 10 word) most) (value 10 word) n e

pub is_shaped : (most n : ℕ) (word : List ℕ) → number_in most word ≡ Some n → is_numeral 10 word ≡ true
is_shaped most n word e = (number_parts most n word e).0

pub at_most : (most n : ℕ) (word : List ℕ) → number_in most word ≡ Some n → n ≤ most
at_most most n word e =
    let parts = number_parts most n word e in
    omega (arith, leb-true (value 10 word) most parts.1, parts.2)

-- ---- groups of one to four hexadecimal digits

group_lt : (word : List ℕ) → length word ≤ 4 → is_numeral 16 word ≡ true → value 16 word < 2 ^ 16
group_lt word short shape =
    let parts = and_parts (ltb 0 (length word)) (list_all (λ c. ltb (digit_value c) 16) word) shape in
    let below = digits_value-lt 16 word (digits_all 16 word parts.1) in
    let most : 16 ^ length word ≤ 16 ^ 4 = pow-le-pow_right (lit≤ tt) short in
    omega (arith, value_is 16 word, below, most)

group_if : (word : List ℕ) (b t : Bool) → leb (length word) 4 ≡ t → is_numeral 16 word ≡ b → group_in word ≡ cond (t && b) (Some (value 16 word)) None
unfolding group_in
group_if word b t q p = ap (λ x. cond (x && is_numeral 16 word) (Some (value 16 word)) None) q ∙ ap (λ x. cond (t && x) (Some (value 16 word)) None) p

pub group_none : (word : List ℕ) → length word ≤ 4 → wide 16 word ≡ None → group_in word ≡ None
group_none word short e = apart (is_numeral 16 word) refl
  where
    apart : (b : Bool) → is_numeral 16 word ≡ b → group_in word ≡ None
    apart false h = group_if word false true (le-leb (length word) 4 short) h
    apart true h =
        let some : wide 16 word ≡ Some (value 16 word) = wide_of word h (omega (arith, group_lt word short h)) in
        absurd (cc)

pub group_some : (n : ℕ) (word : List ℕ) → length word ≤ 4 → wide 16 word ≡ Some n → (n < 2 ^ 16) × (group_in word ≡ Some n)
group_some n word short e =
    let parts = some_parts (is_numeral 16 word) (ltb (value 16 word) (2 ^ 64)) (value 16 word) n e in
    let below : value 16 word < 2 ^ 16 = group_lt word short parts.0 in
    let same : value 16 word ≡ n = parts.2 in
    (omega arith, group_if word true true (le-leb (length word) 4 short) parts.0 ∙ ap Some same)

pub group_length : (word : List ℕ) → 4 < length word → group_in word ≡ None
group_length word long = group_if word (is_numeral 16 word) false (lt-leb (length word) 4 long) refl

group_octets : (n : ℕ) → n < 2 ^ 16 → weights (n / 256 % 256 / 16 ∷ n / 256 % 256 % 16 ∷ n % 256 / 16 ∷ n % 256 % 16 ∷ []) ≡ n
group_octets n small = omega arith

pub group_shape : (n : ℕ) → n < 2 ^ 16 → list_all (λ c. ltb (digit_value c) 16) (group_text n) ≡ true
group_shape n small =
    let ds : List ℕ = n / 256 % 256 / 16 ∷ n / 256 % 256 % 16 ∷ n % 256 / 16 ∷ n % 256 % 16 ∷ [] in
    spelled_digits ds (omega arith, (omega arith, (omega arith, (omega arith, tt))))

pub group_again : (n : ℕ) → n < 2 ^ 16 → group_in (group_text n) ≡ Some n
unfolding group_in
group_again n small =
    let ds : List ℕ = n / 256 % 256 / 16 ∷ n / 256 % 256 % 16 ∷ n % 256 / 16 ∷ n % 256 % 16 ∷ [] in
    let below : AllByRecursion (λ d. d < 16) ds = (omega arith, (omega arith, (omega arith, (omega arith, tt)))) in
    rw (spelled_digits ds below, spelled_value ds below, group_octets n small) refl
