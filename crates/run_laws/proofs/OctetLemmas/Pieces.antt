-- A frame is split into no more parts than it has octets.
use Rattle.std.proofs.Common.{◌≡◌, ◌≤◌, ◌+◌, ◌-◌, ◌*◌, ◌/◌, ℕ, zero, suc, Bool, true, false, cond, ◌==◌, ◌&&◌, ◌||◌, nat_le, List, [], ◌∷◌, length, map, Result, Ok, Err, refl, ap, arith}
use Rattle.std.specs.Prelude.{count_by}
use Rattle.std.proofs.lemmas.List.{length-map}
use Rattle.dom_base.specs.Parts.{Reader, after_first, parts_from, with_front}
use Rattle.plant_laws.specs.plant_model.Types.{Bad}
use Rattle.pcep_messages.specs.Splitting.{octets_at, begins_rp, up_to_rp, groups_of, frame_with, chunks_of, split_objects, split_of}
use Rattle.plant_laws.specs.plant_model.Wire.{Bytes}

-- ---- parts that are read from bytes

ok_is : {X F : Type 0} (x y : X) → ◌≡◌ {A = Result X F} (Ok x) (Ok y) → x ≡ y
ok_is x y e = cc

module _ {X F : Type 0} (read : Reader X F) where
  few_parts : (place left : ℕ) (bytes : List ℕ) (xs : List X) → parts_from read place left bytes ≡ Ok xs → length xs ≤ length bytes
  unfolding parts_from
  few_parts place left [] xs e = none xs left e
    where
      none : (ys : List X) (l : ℕ) → parts_from read place l [] ≡ Ok ys → length ys ≤ 0
      none [] l h = omega arith
      none (y ∷ ys) zero h = absurd (no h)
        where
          no : ◌≡◌ {A = Result (List X) F} (Ok []) (Ok (y ∷ ys)) → ⊥
          no h' = cc
      none (y ∷ ys) (suc l) h = absurd (no h)
        where
          no : ◌≡◌ {A = Result (List X) F} (Ok []) (Ok (y ∷ ys)) → ⊥
          no h' = cc
  few_parts place (suc left) (b ∷ bytes) xs e = let more = few_parts (suc place) left bytes xs e in omega (arith, more)
  few_parts place zero (b ∷ bytes) xs e = go (read (b ∷ bytes)) e (λ len ys. few_parts (suc place) (len - 1) bytes ys)
    where
      go : (r : Result (X × ℕ) (ℕ → F)) → after_first place r (λ len. parts_from read (suc place) (len - 1) bytes) ≡ Ok xs →
          ((len : ℕ) (ys : List X) → parts_from read (suc place) (len - 1) bytes ≡ Ok ys → length ys ≤ length bytes) → length xs ≤ suc (length bytes)
      go (Err f) h more = absurd (no h)
        where
          no : ◌≡◌ {A = Result (List X) F} (Err (f place)) (Ok xs) → ⊥
          no h' = cc
      go (Ok x) h more = others (parts_from read (suc place) (x.1 - 1) bytes) (more x.1) h
        where
          others : (r : Result (List X) F) → ((ys : List X) → r ≡ Ok ys → length ys ≤ length bytes) → with_front (x.0 ∷ []) r ≡ Ok xs → length xs ≤ suc (length bytes)
          others (Err f) rest h' = absurd (no h')
            where
              no : ◌≡◌ {A = Result (List X) F} (Err f) (Ok xs) → ⊥
              no h'' = cc
          others (Ok zs) rest h' =
              let same : x.0 ∷ zs ≡ xs = ok_is {F = F} (x.0 ∷ zs) xs h' in
              let long : length (x.0 ∷ zs) ≡ length xs = ap (λ (l : List X). length l) same in
              let few = rest zs refl in
              omega (arith, long, few)

-- ---- groups

abbrev Few : List (List ℕ) × List (List (List ℕ)) → ℕ → Type 0
Few groups most = length groups.1 ≤ most

few_groups : (os : List (List ℕ)) → Few (up_to_rp os) (length os)
few_groups [] = omega arith
few_groups (o ∷ os) = go (begins_rp o) (few_groups os)
  where
    go : (b : Bool) → Few (up_to_rp os) (length os) → Few (cond b ([], (o ∷ (up_to_rp os).0) ∷ (up_to_rp os).1) (o ∷ (up_to_rp os).0, (up_to_rp os).1)) (suc (length os))
    go true more = omega (arith, more)
    go false more = omega (arith, more)

groups_are : (front : List (List ℕ)) (gs : List (List (List ℕ))) → length (groups_of (front, gs)) ≡ length gs
groups_are front [] = refl
groups_are front (g ∷ gs) = refl

-- ---- a frame

pub few_pieces : (frame : Bytes) → 1 ≤ length frame → length (split_of frame) ≤ length frame
few_pieces [] some = absurd (omega (arith, some))
few_pieces (a ∷ []) some = omega arith
few_pieces (a ∷ b ∷ []) some = omega arith
few_pieces (a ∷ b ∷ d ∷ []) some = omega arith
few_pieces (first ∷ kind ∷ high ∷ low ∷ bytes) some = go ((first / 32 == 1) && ((256 * high + low == length bytes + 4) && ((kind == 3) || (kind == 4))))
  where
    frame : Bytes
    frame = first ∷ kind ∷ high ∷ low ∷ bytes

    objects : (r : Result (List (List ℕ)) Bad) → chunks_of bytes ≡ r → length (split_objects frame first kind r) ≤ length frame
    objects (Err f) is = omega arith
    objects (Ok os) is = few (nat_le 2 (count_by begins_rp os))
      where
        few : (b : Bool) → length (cond b (map (frame_with first kind) (groups_of (up_to_rp os))) (frame ∷ [])) ≤ length frame
        few true =
            let mapped = length-map (groups_of (up_to_rp os)) (frame_with first kind) in
            let grouped : length (groups_of (up_to_rp os)) ≡ length (up_to_rp os).1 = groups_are (up_to_rp os).0 (up_to_rp os).1 in
            let some' : length (up_to_rp os).1 ≤ length os = few_groups os in
            let read = few_parts octets_at 0 0 bytes os is in
            omega (arith, mapped, grouped, some', read)
        few false = omega arith

    go : (t : Bool) → length (cond t (split_objects frame first kind (chunks_of bytes)) (frame ∷ [])) ≤ length frame
    go true = objects (chunks_of bytes) refl
    go false = omega arith
