-- A hexadecimal text, a blank or a pair at a time.
use Rattle.std.proofs.Common.{◌≡◌, ℕ, true, false, List, [], ◌∷◌, ◌++◌, refl, sym, ◌∙◌, ap, append_assoc, None, Some}
use Rattle.std.specs.declared.option.Option.{Option}
use Rattle.std.specs.Option.{option_map}
use Rattle.line_text.specs.Hexadecimal.{is_blank, hex_pair, with_byte, hex_bytes}

-- a blank in front of a text is skipped
blank_first : (c : ℕ) (tail : List ℕ) → is_blank c ≡ true → hex_bytes (c ∷ tail) ≡ hex_bytes tail
blank_first c [] blank = rw blank refl
blank_first c (d ∷ ds) blank = rw blank refl

pair_first : (c d : ℕ) (ds : List ℕ) → is_blank c ≡ false → hex_bytes (c ∷ (d ∷ ds)) ≡ with_byte (hex_pair c d) (hex_bytes ds)
pair_first c d ds not_blank = rw not_blank refl

-- what was read, in front of what is left
abbrev pub with_front : List ℕ → Option (List ℕ) → Option (List ℕ)
with_front bytes rest = option_map (λ bs. bytes ++ bs) rest

pub blank_skipped : (bytes rest tail text : List ℕ) (c : ℕ) → with_front bytes (hex_bytes rest) ≡ hex_bytes text → rest ≡ c ∷ tail → is_blank c ≡ true →
    with_front bytes (hex_bytes tail) ≡ hex_bytes text
blank_skipped bytes rest tail text c so_far is blank =
    ap (with_front bytes) (sym (ap hex_bytes is ∙ blank_first c tail blank)) ∙ so_far

regroup : (bytes : List ℕ) (b : ℕ) (o : Option (List ℕ)) → with_front (bytes ++ b ∷ []) o ≡ with_front bytes (with_byte (Some b) o)
regroup bytes b None = refl
regroup bytes b (Some bs) = ap (λ (xs : List ℕ). Some xs) (append_assoc bytes (b ∷ []) bs)

pub pair_read : (bytes rest tail after text : List ℕ) (c d b : ℕ) → with_front bytes (hex_bytes rest) ≡ hex_bytes text → rest ≡ c ∷ tail → tail ≡ d ∷ after →
    is_blank c ≡ false → hex_pair c d ≡ Some b → with_front (bytes ++ b ∷ []) (hex_bytes after) ≡ hex_bytes text
pair_read bytes rest tail after text c d b so_far is is_tail not_blank is_pair =
    let whole : hex_bytes rest ≡ with_byte (Some b) (hex_bytes after) =
    ap hex_bytes (is ∙ ap (λ (xs : List ℕ). c ∷ xs) is_tail) ∙ pair_first c d after not_blank ∙ ap (λ (o : Option ℕ). with_byte o (hex_bytes after)) is_pair in
    regroup bytes b (hex_bytes after) ∙ ap (with_front bytes) (sym whole) ∙ so_far

-- a text that goes on with no pair has no bytes
pub no_bytes : (bytes rest text : List ℕ) → with_front bytes (hex_bytes rest) ≡ hex_bytes text → hex_bytes rest ≡ None → hex_bytes text ≡ None
no_bytes bytes rest text so_far none = sym so_far ∙ ap (with_front bytes) none
