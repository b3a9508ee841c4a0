-- Bytes cut into messages.
use Rattle.std.proofs.Common.{◌≡◌, ◌==◌, true, false, Some, None, slice_get, sym, ℕ, suc, ◌+◌, ◌≤◌, List, [], ◌∷◌, ◌++◌, length, take, drop, sum, arith, refl, ap, ◌∙◌, length-drop, length-take}
use Rattle.std.proofs.lemmas.List.{take-append-le, drop-append-le, take-append-drop}
use Rattle.std.proofs.lemmas.Bool.{ne_eqb}
use Rattle.std.proofs.lemmas.Grind.{common_steps}
use Rattle.plant_queues.specs.Messages.{pieces, joined, total, Queued, IsRoomAgain}

sum_cons : (n : ℕ) (ns : List ℕ) → sum (n ∷ ns) ≡ n + sum ns
sum_cons n ns = grind (arith, common_steps)

-- one more piece at the end
pub pieces-append : (lengths bytes more : List ℕ) → sum lengths ≡ length bytes → pieces (lengths ++ length more ∷ []) (bytes ++ more) ≡ pieces lengths bytes ++ more ∷ []
pieces-append [] [] more fits = ap (λ m. m ∷ []) (take_all more)
  where
    take_all : (xs : List ℕ) → take (length xs) xs ≡ xs
    take_all [] = refl
    take_all (x ∷ xs) = ap (λ r. x ∷ r) (take_all xs)
pieces-append [] (b ∷ bytes) more fits = absurd (omega arith)
pieces-append (n ∷ lengths) bytes more fits =
    let first : sum (n ∷ lengths) ≡ n + sum lengths = sum_cons n lengths in
    let within : n ≤ length bytes = omega arith in
    let rest : sum lengths ≡ length (drop n bytes) = omega (arith, length-drop n bytes) in
    rw (take-append-le n bytes more within, drop-append-le n bytes more within)
    (ap (λ r. take n bytes ∷ r) (pieces-append lengths (drop n bytes) more rest))

pub length-pieces : (lengths bytes : List ℕ) → length (pieces lengths bytes) ≡ length lengths
length-pieces [] bytes = refl
length-pieces (n ∷ lengths) bytes = ap suc (length-pieces lengths (drop n bytes))

pub total-pieces : (lengths bytes : List ℕ) → sum lengths ≡ length bytes → total (λ (m : List ℕ). length m) (pieces lengths bytes) ≡ length bytes
total-pieces [] bytes fits = fits
total-pieces (n ∷ lengths) bytes fits =
    let first : sum (n ∷ lengths) ≡ n + sum lengths = sum_cons n lengths in
    let rest : sum lengths ≡ length (drop n bytes) = omega (arith, length-drop n bytes) in
    omega (arith, length-take n bytes, length-drop n bytes, total-pieces lengths (drop n bytes) rest)

-- one more piece behind what was taken out
pub put_last : (head : ℕ) (lengths bytes more lengths_after bytes_after : List ℕ) → head ≤ length bytes → sum lengths ≡ length (drop head bytes) →
    lengths_after ≡ lengths ++ length more ∷ [] → bytes_after ≡ bytes ++ more → pieces lengths_after (drop head bytes_after) ≡ pieces lengths (drop head bytes) ++ more ∷ []
put_last head lengths bytes more lengths_after bytes_after within fits is_lengths is_bytes =
    rw (is_lengths, is_bytes, drop-append-le head bytes more within) (pieces-append lengths (drop head bytes) more fits)

pub cleared : (old new : Queued (List ℕ)) (lengths bytes : List ℕ) → old.kept ≡ pieces lengths bytes → sum lengths ≡ length bytes → new.kept ≡ [] →
    old.spare.messages + length lengths ≤ new.spare.messages → old.spare.bytes + length bytes ≤ new.spare.bytes → IsRoomAgain (λ (m : List ℕ). length m) old new
cleared old new lengths bytes is fits none messages more = rw none (rw is (record {
  messages = omega (arith, length-pieces lengths bytes);
  bytes = omega (arith, total-pieces lengths bytes fits);
}))

-- the pieces joined are the bytes
pub joined-pieces : (lengths bytes : List ℕ) → sum lengths ≡ length bytes → joined (pieces lengths bytes) ≡ bytes
joined-pieces [] [] fits = refl
joined-pieces [] (b ∷ bytes) fits = absurd (omega (arith, fits))
joined-pieces (n ∷ lengths) bytes fits =
    let first : sum (n ∷ lengths) ≡ n + sum lengths = sum_cons n lengths in
    let rest : sum lengths ≡ length (drop n bytes) = omega (arith, length-drop n bytes) in
    ap (λ r. take n bytes ++ r) (joined-pieces lengths (drop n bytes) rest) ∙ take-append-drop n bytes

-- whether there is a first message
pub no_first : (messages : List (List ℕ)) → None ≡ slice_get messages 0 → true ≡ (length messages == 0)
no_first [] none = refl
no_first (m ∷ messages) none = absurd (let wrong : None ≡ Some m = none in cc)

pub a_first : (messages : List (List ℕ)) (message : List ℕ) → Some message ≡ slice_get messages 0 → false ≡ (length messages == 0)
a_first [] message some = absurd (let wrong : Some message ≡ None = some in cc)
a_first (m ∷ messages) message some = sym (ne_eqb (suc (length messages)) 0 (λ e. omega (arith, e)))
