-- Nothing is lost where frames are split and objects are grouped, and each part has its RP.
use Rattle.std.proofs.Common.{◌≡◌, ◌⊎◌, inl, inr, subst, ◌≤◌, ◌+◌, ◌-◌, ◌/◌, ◌%◌, ◌*◌, ℕ, zero, suc, Bool, true, false, cond, ◌==◌, ◌&&◌, ◌||◌, nat_le, List, [], ◌∷◌, ◌++◌, length, take, drop, map, Result, Ok, Err, refl, sym, ◌∙◌, ap, arith, append_assoc}
use Rattle.std.specs.Prelude.{All, count_by}
use Rattle.std.proofs.lemmas.Bool.{leb-true, and_parts}
use Rattle.std.proofs.lemmas.Grind.{flat_map-append}
use Rattle.std.proofs.lemmas.List.{take-append-drop}
use Rattle.std.proofs.lemmas.List.Concat.{flat_map-cons}
use Rattle.std.proofs.lemmas.List.Elements.{All-nil, All-cons, All-head, All-tail}
use Rattle.std.proofs.lemmas.List.Sums.{sum_by-cons, sum_by-append}
use Rattle.dom_base.specs.Parts.{half_at, parts_from, with_front, after_first}
use Rattle.pcep_objects.specs.declared.object.Object.{Object}
use Rattle.pcep_messages.specs.declared.message.Bad.{Bad}
use Rattle.pcep_messages.specs.declared.message.Bad.TheVariants.{Malformed}
use Rattle.pcep_messages.specs.declared.groups.Closer.TheVariants as closers
use Rattle.pcep_messages.specs.Groups.{is_rp, cut, closes_by, begin_with, go_on_with, requests_of, report_groups}
use Rattle.pcep_messages.specs.Splitting.{octets_at, begins_rp, up_to_rp, groups_of, frame_with, chunks_of, split_objects, split_of}
use Rattle.pcep_messages.specs.Wholes.{joined, IsSplit, AreReplies}

-- ---- counts

count_more : {X : Type 0} (p : X → Bool) (x : X) (xs : List X) → count_by p (x ∷ xs) ≡ cond (p x) 1 0 + count_by p xs
count_more p x xs = sum_by-cons (λ y. cond (p y) 1 0) x xs

count_append : {X : Type 0} (p : X → Bool) (xs ys : List X) → count_by p (xs ++ ys) ≡ count_by p xs + count_by p ys
count_append p xs ys = sum_by-append (λ y. cond (p y) 1 0) xs ys

join_more : {X : Type 0} (xs : List X) (xss : List (List X)) → joined (xs ∷ xss) ≡ xs ++ joined xss
join_more {X} xs xss = flat_map-cons (λ (part : List X). part) xs xss

join_append : {X : Type 0} (xss yss : List (List X)) → joined (xss ++ yss) ≡ joined xss ++ joined yss
join_append {X} xss yss = flat_map-append (λ (part : List X). part) xss yss

-- ---- the octets of objects, one behind the other

abbrev good : List ℕ → Bool
good bytes = nat_le 4 (length bytes) && (nat_le 4 (half_at bytes 2) && ((half_at bytes 2 % 4 == 0) && nat_le (half_at bytes 2) (length bytes)))

octets_are : (bytes : List ℕ) (x : List ℕ × ℕ) → octets_at bytes ≡ Ok x → (x.0 ≡ take x.1 bytes) × (1 ≤ x.1)
octets_are bytes x e = go (good bytes) refl e
  where
    go : (t : Bool) → good bytes ≡ t → cond {A = Result (List ℕ × ℕ) (ℕ → Bad)} t (Ok (take (half_at bytes 2) bytes, half_at bytes 2)) (Err Malformed) ≡ Ok x →
        (x.0 ≡ take x.1 bytes) × (1 ≤ x.1)
    go false is h = absurd cc
    go true is h =
        let same : (take (half_at bytes 2) bytes, half_at bytes 2) ≡ x = cc in
        let behind = and_parts (nat_le 4 (length bytes)) (nat_le 4 (half_at bytes 2) && ((half_at bytes 2 % 4 == 0) && nat_le (half_at bytes 2) (length bytes))) is in
        let long = and_parts (nat_le 4 (half_at bytes 2)) ((half_at bytes 2 % 4 == 0) && nat_le (half_at bytes 2) (length bytes)) behind.1 in
        let four : 4 ≤ half_at bytes 2 = leb-true 4 (half_at bytes 2) long.0 in
        subst (λ (y : List ℕ × ℕ). (y.0 ≡ take y.1 bytes) × (1 ≤ y.1)) same (refl, omega arith)

front_is : (len : ℕ) (b : ℕ) (bytes : List ℕ) → 1 ≤ len → take len (b ∷ bytes) ++ drop (len - 1) bytes ≡ b ∷ bytes
front_is zero b bytes some = absurd (omega arith)
front_is (suc len) b bytes some =
    let less : suc len - 1 ≡ len = omega arith in
    rw less (ap (λ (xs : List ℕ). b ∷ xs) (take-append-drop len bytes))

nothing_left : (left : ℕ) → drop {A = ℕ} left [] ≡ []
nothing_left zero = refl
nothing_left (suc left) = refl

chunks_whole : (place left : ℕ) (bytes : List ℕ) (cs : List (List ℕ)) → parts_from octets_at place left bytes ≡ Ok cs → joined cs ≡ drop left bytes
unfolding parts_from
chunks_whole place left [] cs e =
    let none : cs ≡ [] = cc in
    ap joined none ∙ sym (nothing_left left)
chunks_whole place (suc left) (b ∷ bytes) cs e = chunks_whole (suc place) left bytes cs e
chunks_whole place zero (b ∷ bytes) cs e = go (octets_at (b ∷ bytes)) refl (λ len os at. chunks_whole (suc place) (len - 1) bytes os at) e
  where
    go : (r : Result (List ℕ × ℕ) (ℕ → Bad)) → octets_at (b ∷ bytes) ≡ r →
        ((len : ℕ) (os : List (List ℕ)) → parts_from octets_at (suc place) (len - 1) bytes ≡ Ok os → joined os ≡ drop (len - 1) bytes) →
        after_first place r (λ len. parts_from octets_at (suc place) (len - 1) bytes) ≡ Ok cs → joined cs ≡ b ∷ bytes
    go (Err fault) is more h = absurd cc
    go (Ok x) is more h = others (parts_from octets_at (suc place) (x.1 - 1) bytes) refl h
      where
        others : (r : Result (List (List ℕ)) Bad) → parts_from octets_at (suc place) (x.1 - 1) bytes ≡ r → with_front (x.0 ∷ []) r ≡ Ok cs → joined cs ≡ b ∷ bytes
        others (Err fault) at h = absurd cc
        others (Ok os) at h =
            let same : x.0 ∷ os ≡ cs = cc in
            let facts = octets_are (b ∷ bytes) x is in
            ap joined (sym same) ∙ join_more x.0 os ∙ ap (λ (xs : List ℕ). xs ++ joined os) facts.0
            ∙ ap (λ (xs : List ℕ). take x.1 (b ∷ bytes) ++ xs) (more x.1 os at)
            ∙ front_is x.1 b bytes facts.1

-- ---- groups of octets

cut_whole : (os : List (List ℕ)) → (up_to_rp os).0 ++ joined (up_to_rp os).1 ≡ os
cut_whole [] = refl
cut_whole (o ∷ os) = go (begins_rp o) (cut_whole os)
  where
    go : (b : Bool) → (up_to_rp os).0 ++ joined (up_to_rp os).1 ≡ os →
        (cond {A = List (List ℕ) × List (List (List ℕ))} b ([], (o ∷ (up_to_rp os).0) ∷ (up_to_rp os).1) (o ∷ (up_to_rp os).0, (up_to_rp os).1)).0
        ++ joined (cond {A = List (List ℕ) × List (List (List ℕ))} b ([], (o ∷ (up_to_rp os).0) ∷ (up_to_rp os).1) (o ∷ (up_to_rp os).0, (up_to_rp os).1)).1 ≡ o ∷ os
    go true more = join_more (o ∷ (up_to_rp os).0) (up_to_rp os).1 ∙ ap (λ (xs : List (List ℕ)). o ∷ xs) more
    go false more = ap (λ (xs : List (List ℕ)). o ∷ xs) more

record HasRps (os : List (List ℕ)) (r : List (List ℕ) × List (List (List ℕ))) : Type 0 where
  none : count_by begins_rp r.0 ≡ 0
  each : All (λ group. count_by begins_rp group ≡ 1) r.1
  count : count_by begins_rp os ≡ length r.1

cut_counts : (os : List (List ℕ)) → HasRps os (up_to_rp os)
cut_counts [] = record { none = refl; each = All-nil (λ group. count_by begins_rp group ≡ 1); count = refl }
cut_counts (o ∷ os) = go (begins_rp o) refl (cut_counts os)
  where
    go : (b : Bool) → begins_rp o ≡ b → HasRps os (up_to_rp os) →
        HasRps (o ∷ os) (cond {A = List (List ℕ) × List (List (List ℕ))} b ([], (o ∷ (up_to_rp os).0) ∷ (up_to_rp os).1) (o ∷ (up_to_rp os).0, (up_to_rp os).1))
    go true is has =
        let group : count_by begins_rp (o ∷ (up_to_rp os).0) ≡ cond true 1 0 + count_by begins_rp (up_to_rp os).0 =
        count_more begins_rp o (up_to_rp os).0 ∙ ap (λ c. cond c 1 0 + count_by begins_rp (up_to_rp os).0) is in
        let all : count_by begins_rp (o ∷ os) ≡ cond true 1 0 + count_by begins_rp os = count_more begins_rp o os ∙ ap (λ c. cond c 1 0 + count_by begins_rp os) is in
        record {
          none = refl;
          each = All-cons (λ group. count_by begins_rp group ≡ 1) (o ∷ (up_to_rp os).0) (up_to_rp os).1 (omega (arith, group, has.none)) has.each;
          count = omega (arith, all, has.count);
        }
    go false is has =
        let front : count_by begins_rp (o ∷ (up_to_rp os).0) ≡ cond false 1 0 + count_by begins_rp (up_to_rp os).0 =
        count_more begins_rp o (up_to_rp os).0 ∙ ap (λ c. cond c 1 0 + count_by begins_rp (up_to_rp os).0) is in
        let all : count_by begins_rp (o ∷ os) ≡ cond false 1 0 + count_by begins_rp os = count_more begins_rp o os ∙ ap (λ c. cond c 1 0 + count_by begins_rp os) is in
        record {
          none = omega (arith, front, has.none);
          each = has.each;
          count = omega (arith, all, has.count);
        }

-- what stands in front goes with the first group
front_joins : (os : List (List ℕ)) (front : List (List ℕ)) (gs : List (List (List ℕ))) → 1 ≤ length gs → front ++ joined gs ≡ os → joined (groups_of (front, gs)) ≡ os
front_joins os front [] some is = absurd (omega arith)
front_joins os front (g ∷ gs) some is =
    join_more (front ++ g) gs ∙ append_assoc front g (joined gs) ∙ ap (λ (xs : List (List ℕ)). front ++ xs) (sym (join_more g gs)) ∙ is

front_counts : (front : List (List ℕ)) (gs : List (List (List ℕ))) → count_by begins_rp front ≡ 0 → All (λ group. count_by begins_rp group ≡ 1) gs →
    All (λ group. count_by begins_rp group ≡ 1) (groups_of (front, gs))
front_counts front [] none each = each
front_counts front (g ∷ gs) none each =
    All-cons (λ group. count_by begins_rp group ≡ 1) (front ++ g) gs
    (omega (arith, count_append begins_rp front g, none, All-head (λ group. count_by begins_rp group ≡ 1) g gs each))
    (All-tail (λ group. count_by begins_rp group ≡ 1) g gs each)

abbrev Splits : List ℕ → List (List ℕ) → Type 0
Splits frame parts = split_of frame ≡ parts → (split_of frame ≡ frame ∷ []) ⊎ IsSplit frame

pub splits_whole : (frame : List ℕ) → (split_of frame ≡ frame ∷ []) ⊎ IsSplit frame
splits_whole [] = inl refl
splits_whole (a ∷ []) = inl refl
splits_whole (a ∷ b ∷ []) = inl refl
splits_whole (a ∷ b ∷ c ∷ []) = inl refl
splits_whole (first ∷ kind ∷ high ∷ low ∷ bytes) = go ((first / 32 == 1) && ((256 * high + low == length bytes + 4) && ((kind == 3) || (kind == 4)))) refl
  where
    frame : List ℕ
    frame = first ∷ kind ∷ high ∷ low ∷ bytes

    objects : (r : Result (List (List ℕ)) Bad) → chunks_of bytes ≡ r → Splits frame (split_objects frame first kind r)
    objects (Err f) is same = inl same
    objects (Ok os) is same = few (nat_le 2 (count_by begins_rp os)) refl same
      where
        few : (b : Bool) → nat_le 2 (count_by begins_rp os) ≡ b → Splits frame (cond b (map (frame_with first kind) (groups_of (up_to_rp os))) (frame ∷ []))
        few false two same = inl same
        few true two same =
            let has = cut_counts os in
            let some : 1 ≤ length (up_to_rp os).1 = omega (arith, has.count, leb-true 2 (count_by begins_rp os) two) in
            inr (record {
              first = first;
              kind = kind;
              groups = groups_of (up_to_rp os);
              parts = same;
              whole = ap joined (front_joins os (up_to_rp os).0 (up_to_rp os).1 some (cut_whole os)) ∙ chunks_whole 0 0 bytes os is;
              one_rp = front_counts (up_to_rp os).0 (up_to_rp os).1 has.none has.each;
            })

    go : (t : Bool) → ((first / 32 == 1) && ((256 * high + low == length bytes + 4) && ((kind == 3) || (kind == 4)))) ≡ t →
        (split_of frame ≡ frame ∷ []) ⊎ IsSplit frame
    go true is = objects (chunks_of bytes) refl (rw is refl)
    go false is = inl (rw is refl)

-- ---- groups of objects

grouped_whole : (closes : Object → Bool) (closed : Bool) (os : List Object) → (cut closes closed os).0 ++ joined (cut closes closed os).1 ≡ os
grouped_whole closes closed [] = refl
grouped_whole closes closed (o ∷ os) = go (is_rp o && closed) (λ c. grouped_whole closes c os)
  where
    go : (b : Bool) → ((c : Bool) → (cut closes c os).0 ++ joined (cut closes c os).1 ≡ os) →
        (cond b (begin_with o (cut closes (closes o) os)) (go_on_with o (cut closes (closed || closes o) os))).0
        ++ joined (cond b (begin_with o (cut closes (closes o) os)) (go_on_with o (cut closes (closed || closes o) os))).1 ≡ o ∷ os
    go true more = join_more (o ∷ (cut closes (closes o) os).0) (cut closes (closes o) os).1 ∙ ap (λ (xs : List Object). o ∷ xs) (more (closes o))
    go false more = ap (λ (xs : List Object). o ∷ xs) (more (closed || closes o))

abbrev by_rp : Bool → List Object → List Object × List (List Object)
by_rp closed os = cut (closes_by closers.Rp) closed os

abbrev OneEach : List (List Object) → Type 0
OneEach gs = All (λ group. count_by is_rp group ≡ 1) gs

record HasRp (closed : Bool) (r : List Object × List (List Object)) : Type 0 where
  few : count_by is_rp r.0 ≤ cond closed 0 1
  each : OneEach r.1

rp_counts : (closed : Bool) (os : List Object) → HasRp closed (by_rp closed os)
rp_counts closed [] = record { few = omega arith; each = All-nil (λ group. count_by is_rp group ≡ 1) }
rp_counts closed (o ∷ os) = go (is_rp o) refl closed (rp_counts true os) (rp_counts closed os)
  where
    go : (b : Bool) → is_rp o ≡ b → (c : Bool) → HasRp true (by_rp true os) → HasRp c (by_rp c os) →
        HasRp c (cond (b && c) (begin_with o (by_rp b os)) (go_on_with o (by_rp (c || b) os)))
    go true is true after same = record {
      few = omega arith;
      each = All-cons (λ group. count_by is_rp group ≡ 1) (o ∷ (by_rp true os).0) (by_rp true os).1 (let n = count_more is_rp o (by_rp true os).0 ∙ ap (λ t. cond t 1 0 + count_by is_rp (by_rp true os).0) is in omega (arith, n, after.few)) after.each;
    }
    go true is false after same = record {
      few = let n = count_more is_rp o (by_rp true os).0 ∙ ap (λ t. cond t 1 0 + count_by is_rp (by_rp true os).0) is in omega (arith, n, after.few);
      each = after.each;
    }
    go false is true after same = record {
      few = let n = count_more is_rp o (by_rp true os).0 ∙ ap (λ t. cond t 1 0 + count_by is_rp (by_rp true os).0) is in omega (arith, n, after.few);
      each = after.each;
    }
    go false is false after same = record {
      few = let n = count_more is_rp o (by_rp false os).0 ∙ ap (λ t. cond t 1 0 + count_by is_rp (by_rp false os).0) is in omega (arith, n, same.few);
      each = same.each;
    }

at_most_one : (gs : List (List Object)) → OneEach gs → All (λ group. count_by is_rp group ≤ 1) gs
at_most_one [] each = All-nil (λ group. count_by is_rp group ≤ 1)
at_most_one (g ∷ gs) each =
    All-cons (λ group. count_by is_rp group ≤ 1) g gs
    (omega (arith, All-head (λ group. count_by is_rp group ≡ 1) g gs each))
    (at_most_one gs (All-tail (λ group. count_by is_rp group ≡ 1) g gs each))

pub requests_whole : (os : List Object) → (joined (requests_of os) ≡ os) × All (λ group. count_by is_rp group ≤ 1) (requests_of os)
requests_whole os =
    let has = rp_counts false os in (
      join_more (by_rp false os).0 (by_rp false os).1 ∙ grouped_whole (closes_by closers.Rp) false os,
      All-cons (λ group. count_by is_rp group ≤ 1) (by_rp false os).0 (by_rp false os).1 has.few (at_most_one (by_rp false os).1 has.each),
    )

pub replies_whole : (os : List Object) → AreReplies os
replies_whole os =
    let has = rp_counts true os in
    record {
      front = (by_rp true os).0;
      whole = grouped_whole (closes_by closers.Rp) true os;
      no_rp = omega (arith, has.few);
      one_rp = has.each;
    }

pub reports_whole : (os : List Object) → joined (report_groups os) ≡ os
reports_whole [] = refl
reports_whole (o ∷ os) =
    join_more (cut (closes_by closers.Report) false (o ∷ os)).0 (cut (closes_by closers.Report) false (o ∷ os)).1 ∙ grouped_whole (closes_by closers.Report) false (o ∷ os)
