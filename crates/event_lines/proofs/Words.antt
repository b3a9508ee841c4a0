-- Numbers, names of files and octets in digits are words, which say again what was written.
use Rattle.std.proofs.Common.{◌≡◌, ℕ, ◌+◌, ◌*◌, ◌/◌, ◌%◌, ◌^◌, ◌<◌, ltb, true, false, codes, List, [], ◌∷◌, ◌++◌, length, Some, refl, ap, arith}
use Rattle.std.proofs.lemmas.Bool.{and_parts, ltb-true}
use Rattle.std.proofs.lemmas.Bool.Decides.{nat_tests}
use Rattle.std.proofs.lemmas.Str.{IsUtf8-from_ascii, IsAscii-append, is_utf8-from_IsUtf8}
use Rattle.std.proofs.lemmas.Str.Ascii.{IsAscii-nil, IsAscii-cons}
use Rattle.std.specs.Str.{IsAscii}
use Rattle.std.specs.Char.{digit_value}
use Rattle.std.specs.Fmt.{decimal}
use Rattle.std.specs.List.{AllByRecursion, list_all, list_any}
use Rattle.std.specs.Str.{is_utf8}
use Rattle.dom_base.proofs.NumeralLaws.{decimal_shape}
use Rattle.line_text.specs.Hexadecimal.{digit_text, hex_bytes, hex_digit, hex_pair, hex_text, is_blank}
use Rattle.line_text.specs.Spelling.{IsWord}

-- ---- numbers

printed_digit : (c : ℕ) → digit_value c < 10 → (32 < c) × (c < 128)
printed_digit c h = (grind (arith, nat_tests), grind (arith, nat_tests))

printed_digits : (digits : List ℕ) → list_all (λ c. ltb (digit_value c) 10) digits ≡ true → AllByRecursion (λ c. 32 < c) digits × IsAscii digits
printed_digits [] h = (tt, IsAscii-nil)
printed_digits (c ∷ digits) h =
    let parts = and_parts (ltb (digit_value c) 10) (list_all (λ c. ltb (digit_value c) 10) digits) h in
    let here = printed_digit c (ltb-true (digit_value c) 10 parts.0) in
    let others = printed_digits digits parts.1 in
    ((here.0, others.0), IsAscii-cons c digits here.1 others.1)

decimal_parts : (n : ℕ) → n < 2 ^ 64 → (0 < length (decimal n)) × AllByRecursion (λ c. 32 < c) (decimal n) × IsAscii (decimal n)
decimal_parts n small =
    let parts = and_parts (ltb 0 (length (decimal n))) (list_all (λ c. ltb (digit_value c) 10) (decimal n)) (decimal_shape n small) in
    let digits = printed_digits (decimal n) parts.1 in
    (ltb-true 0 (length (decimal n)) parts.0, digits.0, digits.1)

pub decimal_word : (n : ℕ) → n < 2 ^ 64 → IsWord (decimal n)
decimal_word n small = let parts = decimal_parts n small in record { some = parts.0; bytes = parts.1 }

-- ---- names of files

bytes_append : (xs ys : List ℕ) → AllByRecursion (λ c. 32 < c) xs → AllByRecursion (λ c. 32 < c) ys → AllByRecursion (λ c. 32 < c) (xs ++ ys)
bytes_append [] ys h k = k
bytes_append (x ∷ xs) ys h k = (h.0, bytes_append xs ys h.1 k)

all_ascii : (bytes : List ℕ) → AllByRecursion (λ c. c < 128) bytes → IsAscii bytes
all_ascii [] h = IsAscii-nil
all_ascii (c ∷ bytes) h = IsAscii-cons c bytes h.0 (all_ascii bytes h.1)

front_ascii : IsAscii (codes "load-")
front_ascii = all_ascii (codes "load-") (omega arith, (omega arith, (omega arith, (omega arith, (omega arith, tt)))))

end_ascii : IsAscii (codes ".txt")
end_ascii = all_ascii (codes ".txt") (omega arith, (omega arith, (omega arith, (omega arith, tt))))

end_printed : AllByRecursion (λ c. 32 < c) (codes ".txt")
end_printed = (omega arith, (omega arith, (omega arith, (omega arith, tt))))

abbrev named : ℕ → List ℕ
named k = codes "load-" ++ (decimal k ++ codes ".txt")

pub named_word : (k : ℕ) → k < 2 ^ 64 → IsWord (named k)
named_word k small =
    let parts = decimal_parts k small in
    record {
      some = omega arith;
      bytes = (omega arith, (omega arith, (omega arith, (omega arith, (omega arith, bytes_append (decimal k) (codes ".txt") parts.1 end_printed)))));
    }

pub named_utf8 : (k : ℕ) → k < 2 ^ 64 → is_utf8 (named k) ≡ true
named_utf8 k small =
    let ascii : IsAscii (named k) = IsAscii-append (codes "load-") (decimal k ++ codes ".txt") front_ascii (IsAscii-append (decimal k) (codes ".txt") (decimal_parts k small).2 end_ascii) in
    is_utf8-from_IsUtf8 (named k) (IsUtf8-from_ascii (named k) ascii)

-- ---- octets in digits

digit_back : (x : ℕ) → x < 16 → hex_digit (digit_text x) ≡ Some x
digit_back x small = grind (arith, nat_tests)

digit_printed : (x : ℕ) → 32 < digit_text x
digit_printed x = grind (arith, nat_tests)

not_blank : (c : ℕ) → 32 < c → is_blank c ≡ false
not_blank c h = grind (arith, nat_tests)

pair_back : (b : ℕ) → b < 256 → hex_pair (digit_text (b / 16)) (digit_text (b % 16)) ≡ Some b
pair_back b small =
    let high : hex_digit (digit_text (b / 16)) ≡ Some (b / 16) = digit_back (b / 16) (omega arith) in
    let low : hex_digit (digit_text (b % 16)) ≡ Some (b % 16) = digit_back (b % 16) (omega arith) in
    let same : 16 * (b / 16) + b % 16 ≡ b = omega arith in
    rw (high, low) (ap (λ (n : ℕ). Some n) same)

pub hex_again : (bytes : List ℕ) → AllByRecursion (λ b. b < 256) bytes → hex_bytes (hex_text bytes) ≡ Some bytes
hex_again [] h = refl
hex_again (b ∷ bytes) h =
    rw (not_blank (digit_text (b / 16)) (digit_printed (b / 16)), pair_back b h.0, hex_again bytes h.1) refl

pub hex_printed : (bytes : List ℕ) → AllByRecursion (λ c. 32 < c) (hex_text bytes)
hex_printed [] = tt
hex_printed (b ∷ bytes) = (digit_printed (b / 16), (digit_printed (b % 16), hex_printed bytes))

some_digits : (bytes : List ℕ) → 0 < length bytes → 0 < length (hex_text bytes)
some_digits [] some = absurd (omega arith)
some_digits (b ∷ bytes) some = omega arith

pub hex_word : (bytes : List ℕ) → 0 < length bytes → IsWord (hex_text bytes)
hex_word bytes some = record { some = some_digits bytes some; bytes = hex_printed bytes }

pub no_gap : (word : List ℕ) → AllByRecursion (λ c. 32 < c) word → list_any is_blank word ≡ false
no_gap [] h = refl
no_gap (c ∷ word) h = rw (not_blank c h.0) (no_gap word h.1)
