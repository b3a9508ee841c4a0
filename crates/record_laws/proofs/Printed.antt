-- Octets that are printed: numbers, names and words have no line end.
use Rattle.std.proofs.Common.{◌≡◌, ◌≢◌, ◌∙◌, ℕ, zero, suc, ◌+◌, ◌-◌, ◌/◌, ◌%◌, ◌<◌, ◌≤◌, ltb, Bool, true, false, not, ◌==◌, cond, nat_le, List, [], ◌∷◌, ◌++◌, length, get_or, refl, sym, ap, arith}
use Rattle.std.specs.Fmt.{decimal, digit_glyph, digits, digits_onto}
use Rattle.std.specs.List.{AllByRecursion, list_all}
use Rattle.std.specs.Str.Lines.{strip_carriage_return}
use Rattle.std.proofs.lemmas.Bool.{and_from, and_parts, ne_eqb, le-leb, leb-true}
use Rattle.std.proofs.lemmas.List.Folds.{list_all-append}

abbrev pub is_printed : ℕ → Bool
is_printed c = nat_le 32 c

abbrev pub is_within : ℕ → Bool
is_within c = not (c == 10)

-- no blank or greater is left out
abbrev pub Printed : List ℕ → Type 0
Printed xs = list_all is_printed xs ≡ true

-- no line ends
abbrev pub Within : List ℕ → Type 0
Within xs = list_all is_within xs ≡ true

-- ---- lists

pub printed_append : (xs ys : List ℕ) → Printed xs → Printed ys → Printed (xs ++ ys)
printed_append xs ys h k = list_all-append is_printed xs ys ∙ and_from (list_all is_printed xs) (list_all is_printed ys) h k

pub within_append : (xs ys : List ℕ) → Within xs → Within ys → Within (xs ++ ys)
within_append xs ys h k = list_all-append is_within xs ys ∙ and_from (list_all is_within xs) (list_all is_within ys) h k

printed_one : (c : ℕ) → 32 ≤ c → is_printed c ≡ true
printed_one c h = le-leb 32 c h

within_one : (c : ℕ) → is_printed c ≡ true → is_within c ≡ true
within_one c h = let above : 32 ≤ c = leb-true 32 c h in rw (ne_eqb c 10 (λ e. absurd (omega arith))) refl

pub printed_within : (xs : List ℕ) → Printed xs → Within xs
printed_within [] h = refl
printed_within (c ∷ xs) h =
    let parts = and_parts (is_printed c) (list_all is_printed xs) h in
    and_from (is_within c) (list_all is_within xs) (within_one c parts.0) (printed_within xs parts.1)

pub words_printed : (xs : List ℕ) → AllByRecursion (λ c. 32 < c) xs → Printed xs
words_printed [] h = refl
words_printed (c ∷ xs) h = let above : 32 < c = h.0 in and_from (is_printed c) (list_all is_printed xs) (printed_one c (omega arith)) (words_printed xs h.1)

pub printed_all : (xs : List ℕ) → Printed xs → AllByRecursion (λ c. 32 ≤ c) xs
printed_all [] h = tt
printed_all (c ∷ xs) h = let parts = and_parts (is_printed c) (list_all is_printed xs) h in (leb-true 32 c parts.0, printed_all xs parts.1)

not_ten : (c : ℕ) → is_within c ≡ true → c ≢ 10
not_ten c h e = absurd (let no : false ≡ true = sym (ap is_within e) ∙ h in cc)

pub within_all : (xs : List ℕ) → Within xs → AllByRecursion (λ c. c ≢ 10) xs
within_all [] h = tt
within_all (c ∷ xs) h = let parts = and_parts (is_within c) (list_all is_within xs) h in (not_ten c parts.0, within_all xs parts.1)

pub all_within : (xs : List ℕ) → AllByRecursion (λ c. c ≢ 10) xs → Within xs
all_within [] h = refl
all_within (c ∷ xs) h = and_from (is_within c) (list_all is_within xs) (rw (ne_eqb c 10 h.0) refl) (all_within xs h.1)

-- ---- numbers

glyph_printed : (d : ℕ) → is_printed (digit_glyph false d) ≡ true
glyph_printed d = go (ltb d 10)
  where
    go : (b : Bool) → is_printed (cond b (48 + d) (87 + d)) ≡ true
    go true = printed_one (48 + d) (omega arith)
    go false = printed_one (87 + d) (omega arith)

either : (b : Bool) (xs ys : List ℕ) → Printed xs → Printed ys → Printed (cond b xs ys)
either true xs ys h k = h
either false xs ys h k = k

onto_printed : (k n : ℕ) (acc : List ℕ) → Printed acc → Printed (digits_onto k 10 false n acc)
onto_printed zero n acc h = h
onto_printed (suc k) n acc h =
    let more : Printed (digit_glyph false (n % 10) ∷ acc) = and_from (is_printed (digit_glyph false (n % 10))) (list_all is_printed acc) (glyph_printed (n % 10)) h in
    either (n / 10 == 0) (digit_glyph false (n % 10) ∷ acc) (digits_onto k 10 false (n / 10) (digit_glyph false (n % 10) ∷ acc)) more (onto_printed k (n / 10) (digit_glyph false (n % 10) ∷ acc) more)

pub decimal_printed : (n : ℕ) → Printed (decimal n)
unfolding digits
decimal_printed n = onto_printed 64 n [] refl

-- ---- a line loses no octet

-- the last octet of printed ones is no carriage return
last_printed : (line : List ℕ) → Printed line → (get_or line (length line - 1) 0 == 13) ≡ false
last_printed [] h = refl
last_printed (c ∷ []) h = let above : 32 ≤ c = (printed_all (c ∷ []) h).0 in ne_eqb c 13 (λ e. absurd (omega arith))
last_printed (c ∷ d ∷ line) h = let place : length (c ∷ d ∷ line) - 1 ≡ suc (length (d ∷ line) - 1) = omega arith in rw place (last_printed (d ∷ line) (and_parts (is_printed c) (list_all is_printed (d ∷ line)) h).1)

pub printed_stays : (line : List ℕ) → Printed line → strip_carriage_return line ≡ line
printed_stays line h = rw (last_printed line h) refl
