-- Numbers of sixteen octets that were written are read again.
use Rattle.std.proofs.Common.{◌≡◌, ℕ, ◌+◌, ◌*◌, ◌/◌, ◌%◌, ◌^◌, ◌<◌, List, [], ◌∷◌, ◌++◌, refl, arith}
use Rattle.std.specs.Int.{w128, to_be_bytes}
use Rattle.std.proofs.Math.Nat as nat
use Rattle.dom_base.specs.Parts.{word_at}
use Rattle.pcep_subobjects.specs.Addresses.{wide_at}

-- a number divided by a power of an octet, by its lowest octet and the rest
octet_and_rest : (n p q : ℕ) → q ≡ p * 256 → n / p ≡ n / p % 256 + n / q * 256
octet_and_rest n p q e = rw e (omega (arith, nat.div-div-eq-div-mul n p 256))

four : (a b c d n p q r t : ℕ) → n ≡ d + p * 256 → p ≡ c + q * 256 → q ≡ b + r * 256 → r ≡ a + t * 256 → n ≡ word_at (a ∷ b ∷ c ∷ d ∷ []) 0 + t * 4294967296
four a b c d n p q r t at_d at_c at_b at_a = omega arith

-- the word in four octets, and what stands above it
word_and_rest : (n s p q r t : ℕ) → p ≡ s * 256 → q ≡ p * 256 → r ≡ q * 256 → t ≡ r * 256
    → n / s ≡ word_at (n / r % 256 ∷ n / q % 256 ∷ n / p % 256 ∷ n / s % 256 ∷ []) 0 + n / t * 4294967296
word_and_rest n s p q r t at_p at_q at_r at_t =
    four _ _ _ _ _ _ _ _ _ (octet_and_rest n s p at_p) (octet_and_rest n p q at_q) (octet_and_rest n q r at_r) (octet_and_rest n r t at_t)

lowest_and_rest : (n : ℕ) → n ≡ word_at (n / 16777216 % 256 ∷ n / 65536 % 256 ∷ n / 256 % 256 ∷ n % 256 ∷ []) 0 + n / 4294967296 * 4294967296
lowest_and_rest n =
    let low : n ≡ n % 256 + n / 256 * 256 = omega arith in
    four _ _ _ _ _ _ _ _ _ low (octet_and_rest n 256 65536 refl) (octet_and_rest n 65536 16777216 refl) (octet_and_rest n 16777216 4294967296 refl)

four_words : (a b c d n p q r : ℕ) → n ≡ d + p * 4294967296 → p ≡ c + q * 4294967296 → q ≡ b + r * 4294967296 → r ≡ a
    → 18446744073709551616 * (4294967296 * a + b) + (4294967296 * c + d) ≡ n
four_words a b c d n p q r at_d at_c at_b at_a = omega arith

top : (n : ℕ) → n < 2 ^ 128 → n / 2 ^ 128 ≡ 0
top n lt = omega (arith, lt)

pub wide_back : (n : ℕ) (rest : List ℕ) → n < 2 ^ 128 → wide_at (to_be_bytes w128 n ++ rest) 0 ≡ n
wide_back n rest lt =
    four_words _ _ _ _ n _ _ _ (lowest_and_rest n)
    (word_and_rest n 4294967296 (2 ^ 40) (2 ^ 48) (2 ^ 56) (2 ^ 64) refl refl refl refl)
    (word_and_rest n (2 ^ 64) (2 ^ 72) (2 ^ 80) (2 ^ 88) (2 ^ 96) refl refl refl refl)
    (omega (arith, word_and_rest n (2 ^ 96) (2 ^ 104) (2 ^ 112) (2 ^ 120) (2 ^ 128) refl refl refl refl, top n lt))

pub wide_behind_half : (a b n : ℕ) (rest : List ℕ) → n < 2 ^ 128 → wide_at (a ∷ b ∷ to_be_bytes w128 n ++ rest) 2 ≡ n
wide_behind_half a b n rest lt = wide_back n rest lt
