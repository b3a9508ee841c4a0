-- What a line feeds has no more octets than the line has bytes.
use Rattle.std.proofs.Common.{◌≡◌, ℕ, ◌≤◌, ◌==◌, ◌||◌, Bool, true, false, cond, List, [], ◌∷◌, length, Option, Some, None, refl, subst, arith}
use Rattle.std.specs.List.{AllByRecursion, list_any}
use Rattle.std.proofs.lemmas.List.Elements.{recursion_from_All}
use Rattle.line_text.specs.Hexadecimal.{hex_bytes, hex_pair, is_blank, with_byte}
use Rattle.plant_laws.specs.plant_model.Types.{LineEvent, NetworkParts}
use Rattle.plant_text.specs.Lines.{hex_in, line_in, octets_of}
use Rattle.run_laws.proofs.TextLemmas.FedWords.{AllMean, line_fed}
use Rattle.run_laws.proofs.TextLemmas.Lengths.{words_within}

-- ---- pairs of digits

-- no longer than this
abbrev IsShort : ℕ → List ℕ → Type 0
IsShort most bytes = length bytes ≤ most

is_short : (most : ℕ) (made bytes : List ℕ) → Some made ≡ Some bytes → IsShort most made → IsShort most bytes
is_short most made bytes is h = let same : made ≡ bytes = cc in subst (IsShort most) same h

hex_short : (text bytes : List ℕ) → hex_bytes text ≡ Some bytes → IsShort (length text) bytes
hex_short [] bytes is = is_short 0 [] bytes is (omega arith)
hex_short (c ∷ []) bytes is = go (is_blank c) is
  where
    go : (b : Bool) → cond b (Some []) None ≡ Some bytes → IsShort 1 bytes
    go true e = is_short 1 [] bytes e (omega arith)
    go false e = absurd (cc)
hex_short (c ∷ (d ∷ ds)) bytes is =
    go (is_blank c) (hex_pair c d) (hex_bytes ds) (λ rest e. hex_short ds rest e) (λ e. hex_short (d ∷ ds) bytes e) is
  where
    go : (blank : Bool) (pair : Option ℕ) (o : Option (List ℕ)) → ((rest : List ℕ) → o ≡ Some rest → IsShort (length ds) rest) →
        (hex_bytes (d ∷ ds) ≡ Some bytes → IsShort (length (d ∷ ds)) bytes) → cond blank (hex_bytes (d ∷ ds)) (with_byte pair o) ≡ Some bytes → IsShort (length (c ∷ (d ∷ ds))) bytes
    go true pair o others skipped e = let one = skipped e in omega (arith, one)
    go false None o others skipped e = absurd (cc)
    go false (Some b) None others skipped e = absurd (cc)
    go false (Some b) (Some rest) others skipped e =
        let one = others rest refl in
        is_short (length (c ∷ (d ∷ ds))) (b ∷ rest) bytes e (omega (arith, one))

fed_short : (word bytes : List ℕ) → hex_in word ≡ Some bytes → IsShort (length word) bytes
fed_short word bytes is = go ((length word == 0) || list_any is_blank word) is
  where
    go : (b : Bool) → cond b None (hex_bytes word) ≡ Some bytes → IsShort (length word) bytes
    go true e = absurd (cc)
    go false e = hex_short word bytes e

-- ---- lines

words_short : (most : ℕ) (words : List (List ℕ)) → AllByRecursion (λ (word : List ℕ). length word ≤ most) words → AllMean (IsShort most) words
words_short most [] within = tt
words_short most (word ∷ words) within = (λ bytes is. let one = fed_short word bytes is in let here = within.0 in omega (arith, one, here), words_short most words within.1)

pub feeds_short : (n : NetworkParts) (line : List ℕ) (e : LineEvent) → line_in n line ≡ Some (Some e) → length (octets_of e) ≤ length line
feeds_short n line e is =
    line_fed (IsShort (length line)) (omega arith) n line
    (λ words said. words_short (length line) words (recursion_from_All (λ (word : List ℕ). length word ≤ length line) words (words_within line words said)))
    e is
