-- What a line feeds is octets.
use Rattle.std.proofs.Common.{◌≡◌, ℕ, ◌+◌, ◌*◌, ◌<◌, ◌==◌, ◌||◌, Bool, true, false, cond, List, [], ◌∷◌, length, Option, Some, None, refl, subst, arith}
use Rattle.std.specs.List.{AllByRecursion, list_any}
use Rattle.std.proofs.lemmas.Bool.Decides.{nat_tests}
use Rattle.std.proofs.lemmas.List.Elements.{All-from_recursion, All-nil}
use Rattle.line_text.specs.Hexadecimal.{hex_bytes, hex_digit, hex_pair, is_blank, with_byte}
use Rattle.plant_laws.specs.plant_model.Types.{LineEvent, NetworkParts}
use Rattle.plant_text.specs.Lines.{blind_line_in, hex_in, line_in}
use Rattle.run_laws.specs.Ranges.{AreOctets}
use Rattle.run_laws.proofs.TextLemmas.FedWords.{AllMean, Feeds, blind_line_fed, line_fed}

-- ---- pairs of digits

digit_below : (c x : ℕ) → hex_digit c ≡ Some x → x < 16
digit_below c x is = grind (arith, nat_tests)

pair_below : (c d b : ℕ) → hex_pair c d ≡ Some b → b < 256
pair_below c d b is = go (hex_digit c) (hex_digit d) refl refl
  where
    go : (o p : Option ℕ) → hex_digit c ≡ o → hex_digit d ≡ p → b < 256
    go (Some x) (Some y) e f =
        let both : Some (16 * x + y) ≡ Some b = rw (e, f) at is in
        let same : 16 * x + y ≡ b = cc in
        omega (arith, digit_below c x e, digit_below d y f, same)
    go (Some x) None e f = let none : None ≡ Some b = rw (e, f) at is in absurd (cc)
    go None p e f = let none : None ≡ Some b = rw e at is in absurd (cc)

abbrev Octets : List ℕ → Type 0
Octets bytes = AllByRecursion (λ b. b < 256) bytes

is_octets : (made bytes : List ℕ) → Some made ≡ Some bytes → Octets made → Octets bytes
is_octets made bytes is h = let same : made ≡ bytes = cc in subst Octets same h

hex_octets : (text bytes : List ℕ) → hex_bytes text ≡ Some bytes → Octets bytes
hex_octets [] bytes is = is_octets [] bytes is tt
hex_octets (c ∷ []) bytes is = go (is_blank c) is
  where
    go : (b : Bool) → cond b (Some []) None ≡ Some bytes → Octets bytes
    go true e = is_octets [] bytes e tt
    go false e = absurd (cc)
hex_octets (c ∷ (d ∷ ds)) bytes is =
    go (is_blank c) (hex_pair c d) (λ b e. pair_below c d b e) (hex_bytes ds) (λ rest e. hex_octets ds rest e) (λ e. hex_octets (d ∷ ds) bytes e) is
  where
    go : (blank : Bool) (pair : Option ℕ) → ((b : ℕ) → pair ≡ Some b → b < 256) → (o : Option (List ℕ)) → ((rest : List ℕ) → o ≡ Some rest → Octets rest) →
        (hex_bytes (d ∷ ds) ≡ Some bytes → Octets bytes) → cond blank (hex_bytes (d ∷ ds)) (with_byte pair o) ≡ Some bytes → Octets bytes
    go true pair one o others skipped e = skipped e
    go false None one o others skipped e = absurd (cc)
    go false (Some b) one None others skipped e = absurd (cc)
    go false (Some b) one (Some rest) others skipped e = is_octets (b ∷ rest) bytes e (one b refl, others rest refl)

fed_octets : (word bytes : List ℕ) → hex_in word ≡ Some bytes → AreOctets bytes
fed_octets word bytes is = go ((length word == 0) || list_any is_blank word) is
  where
    go : (b : Bool) → cond b None (hex_bytes word) ≡ Some bytes → AreOctets bytes
    go true e = absurd (cc)
    go false e = All-from_recursion (λ b. b < 256) bytes (hex_octets word bytes e)

-- ---- lines

-- what an event feeds is octets
abbrev pub FeedsOctets : LineEvent → Type 0
FeedsOctets e = Feeds AreOctets e

no_octets : AreOctets []
no_octets = All-nil (λ b. b < 256)

words_octets : (words : List (List ℕ)) → AllMean AreOctets words
words_octets [] = tt
words_octets (word ∷ words) = (λ bytes is. fed_octets word bytes is, words_octets words)

pub line_octets : (n : NetworkParts) (line : List ℕ) (e : LineEvent) → line_in n line ≡ Some (Some e) → FeedsOctets e
line_octets n line e is = line_fed AreOctets no_octets n line (λ words said. words_octets words) e is

pub blind_line_octets : (n : NetworkParts) (line : List ℕ) (e : LineEvent) → blind_line_in n line ≡ Some (Some e) → FeedsOctets e
blind_line_octets n line e is = blind_line_fed AreOctets no_octets n line (λ words said. words_octets words) e is
