-- Parts of octets, looked at one behind the other.
use Rattle.std.proofs.Common.{◌≡◌, ℕ, zero, suc, ◌+◌, ◌-◌, ◌≤◌, eqb, true, false, List, [], ◌∷◌, ◌++◌, length, drop, Result, Ok, Err, refl, sym, ap, ◌∙◌, arith, subst}
use Rattle.std.proofs.lemmas.Bool.{eqb-true}
use Rattle.std.specs.Prelude.{IsOk, is_ok}
use Rattle.dom_base.specs.Parts.{Reader, after_first, parts_from, with_front}
use Rattle.dom_base.proofs.Parts.{goes_on, stops, ends, front_nil}
use Rattle.pcep_subobjects.specs.Parts.{Measures}

-- some parts stand in front of the rest
pub record IsPassed {X F : Type 0} (read : Reader X F) (start : ℕ) (bytes : List ℕ) (place : ℕ) (rest : List ℕ) : Type 0 where
  pub front : List X
  pub reading : with_front front (parts_from read place 0 rest) ≡ parts_from read start 0 bytes

pub nothing_passed : {X F : Type 0} (read : Reader X F) (start : ℕ) (bytes : List ℕ) → IsPassed read start bytes start bytes
nothing_passed read start bytes = record { front = []; reading = front_nil (parts_from read start 0 bytes) }

pub one_more_passed : {X F : Type 0} (read : Reader X F) (start : ℕ) (bytes : List ℕ) (place : ℕ) (rest : List ℕ) (len : ℕ) → IsPassed read start bytes place rest
    → 1 ≤ len → len ≤ length rest → Measures {X = X} {F = F} place (Ok len) (read rest) → IsPassed read start bytes (place + len) (drop len rest)
one_more_passed read start bytes place rest len passed some within found = record {
  front = passed.front ++ found.0 ∷ [];
  reading = sym (goes_on read passed.front place rest found.0 len some within found.1) ∙ passed.reading;
}

pub fault_here : {X F : Type 0} (read : Reader X F) (start : ℕ) (bytes : List ℕ) (place : ℕ) (rest : List ℕ) (e : F) → IsPassed read start bytes place rest
    → 1 ≤ length rest → Measures {X = X} {F = F} place (Err e) (read rest) → parts_from read start 0 bytes ≡ Err e
fault_here read start bytes place rest e passed some found =
    sym passed.reading ∙ stops read passed.front place rest found.0 some found.1 ∙ ap (λ f. Err f) (sym found.2)

pub no_fault : {X F : Type 0} (read : Reader X F) (start : ℕ) (bytes : List ℕ) (place : ℕ) (rest : List ℕ) → IsPassed read start bytes place rest
    → length rest ≡ 0 → IsOk (parts_from read start 0 bytes)
no_fault read start bytes place rest passed none =
    ap (λ r. is_ok r) (sym passed.reading ∙ ends read passed.front place rest none)

abbrev failure : {X F : Type 0} → F → Result (List X) F
failure f = Err f

refused : (X : Type 0) {F : Type 0} (f : F) → IsOk (failure {X = X} f) → ⊥
refused X f e = cc

-- where all is well, the part at the front is
pub is_good : {X F : Type 0} (read : Reader X F) (front : List X) (place : ℕ) (rest : List ℕ) (total : Result (List X) F) → with_front front (parts_from read place 0 rest) ≡ total
    → IsOk total → 1 ≤ length rest → IsOk (read rest)
is_good {X} {F} read front place rest total reading good some = go (read rest) refl
  where
    go : (r : Result (X × ℕ) (ℕ → F)) → read rest ≡ r → IsOk r
    go (Ok x) e = refl
    go (Err fault) e =
        let bad : total ≡ Err (fault place) = sym reading ∙ stops read front place rest fault some e in
        absurd (refused X (fault place) (subst (λ (t : Result (List X) F). IsOk t) bad good))

pub some_left : (bytes : List ℕ) → eqb (length bytes) 0 ≡ false → 1 ≤ length bytes
some_left [] e = absurd cc
some_left (b ∷ bytes) e = omega arith

pub none_left : (bytes : List ℕ) → eqb (length bytes) 0 ≡ true → length bytes ≡ 0
none_left bytes e = eqb-true (length bytes) 0 e

-- ---- what is at fault in one part is all that is at fault in the whole

err_behind : {X F : Type 0} (front : List X) (r : Result (List X) F) (e : F) → with_front front r ≡ Err e → r ≡ Err e
err_behind front (Ok xs) e is = absurd cc
err_behind front (Err f) e is = is

same_fault : {X F : Type 0} (f e : F) → failure {X = X} f ≡ failure e → f ≡ e
same_fault f e is = cc

fault_here_or_behind : {X F : Type 0} (P : F → Type 0) (place : ℕ) (r : Result (X × ℕ) (ℕ → F)) (others : ℕ → Result (List X) F) (e : F)
    → ((fault : ℕ → F) → r ≡ Err fault → P (fault place)) → ((len : ℕ) → others len ≡ Err e → P e) → after_first place r others ≡ Err e → P e
fault_here_or_behind {X} P place (Err fault) others e here behind is = subst P (same_fault {X = X} (fault place) e is) (here fault refl)
fault_here_or_behind P place (Ok x) others e here behind is = behind x.1 (err_behind (x.0 ∷ []) (others x.1) e is)

pub fault_of_one : {X F : Type 0} (read : Reader X F) (P : F → Type 0) → ((bytes : List ℕ) (place : ℕ) (fault : ℕ → F) → read bytes ≡ Err fault → P (fault place))
    → (place left : ℕ) (bytes : List ℕ) (e : F) → parts_from read place left bytes ≡ Err e → P e
unfolding parts_from
fault_of_one read P each place left [] e is = absurd cc
fault_of_one read P each place (suc left) (b ∷ bytes) e is = fault_of_one read P each (suc place) left bytes e is
fault_of_one read P each place zero (b ∷ bytes) e is =
    fault_here_or_behind P place (read (b ∷ bytes)) (λ len. parts_from read (suc place) (len - 1) bytes) e (each (b ∷ bytes) place)
    (λ len behind. fault_of_one read P each (suc place) (len - 1) bytes e behind) is
