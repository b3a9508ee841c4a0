-- Who waits for the answers of a peer, and which of several numbers have ended.
use Rattle.std.proofs.Common.{◌≡◌, ◌∙◌, ◌==◌, ◌<◌, ◌+◌, ◌≤◌, ℕ, suc, Bool, true, false, not, cond, nat_lt, Option, Some, None, List, [], ◌∷◌, ◌++◌, length, take, map, arith, inl, inr, refl, sym, ap, subst, length-append}
use Rattle.std.specs.Prelude.{Contains, filter, slice_get}
use Rattle.std.specs.BTreeMap.{is_at}
use Rattle.std.specs.BTreeSet.{BTreeSet, contains}
use Rattle.std.specs.List.{AllByRecursion}
use Rattle.std.specs.Ordering.{nat_cmp, is_eq}
use Rattle.std.specs.declared.cmp.Ordering.{Ordering}
use Rattle.std.specs.declared.cmp.Ordering.TheVariants.{Less, Equal, Greater}
use Rattle.std.proofs.lemmas.Bool.{cases_Bool, eqb-true, eq-eqb, ne_eqb, ltb-true}
use Rattle.std.proofs.lemmas.List.{append-nil, map-append}
use Rattle.std.proofs.lemmas.List.Elements.{filter-append}
use Rattle.plant_model.specs.Types.{Held}
use Rattle.plant_model.specs.Plant.{has_number}
use Rattle.pce_common.specs.Waiting.{AreSaidOf, AreSorted, IsSaidOf, numbers_waiting, one_more, waiter_at}
use Rattle.pce_common.specs.declared.waiters.Waiter.{Waiter}
use Rattle.pce_common.specs.declared.waiters.Waiter.TheVariants.{One, Several}
use Rattle.pce_common.specs.declared.waiters.Waiters.{Waiters}
use Rattle.pce_common.proofs.HeldRows.{Numbered, first_in, in_cases, later_in, none_in}
use Rattle.pce_common.proofs.HeldPlaces.{taken_at}

-- ---- numbers in order

-- the order of two numbers tells whether they are one
pub is_at_number : (k q : ℕ) → is_at (nat_cmp k) q ≡ (k == q)
is_at_number k q =
    elim (cases_Bool (nat_lt k q)) [
      | inl less ↦ rw less (sym (ne_eqb k q (λ same. omega (arith, same, ltb-true k q less))))
      | inr not_less ↦ rw not_less (go (k == q))
    ]
  where
    go : (b : Bool) → is_eq (cond b Equal Greater) ≡ b
    go true = refl
    go false = refl

-- ---- numbers that have ended

same_either_way : (q n : ℕ) → (q == n) ≡ (n == q)
same_either_way q n =
    elim (cases_Bool (q == n)) [
      | inl same ↦ same ∙ sym (eq-eqb n q (sym (eqb-true q n same)))
      | inr differ ↦ differ ∙ sym (ne_eqb n q (λ same. let no : true ≡ false = sym (eq-eqb q n (sym same)) ∙ differ in cc))
    ]

has_more : (q : ℕ) (numbers : List ℕ) (n : ℕ) → has_number q (numbers ++ n ∷ []) ≡ cond (n == q) true (has_number q numbers)
has_more q [] n = ap (λ (b : Bool). cond b true false) (same_either_way q n)
has_more q (m ∷ numbers) n = ap (λ (b : Bool). cond (q == m) true b) (has_more q numbers n) ∙ go (q == m) (n == q)
  where
    go : (b c : Bool) → cond b true (cond c true (has_number q numbers)) ≡ cond c true (cond b true (has_number q numbers))
    go true true = refl
    go true false = refl
    go false true = refl
    go false false = refl

pub sorted_more : (many : Bool) (numbers : List ℕ) (n : ℕ) (old new : BTreeSet ℕ) → ((q : ℕ) → contains nat_cmp new q ≡ cond (is_at (nat_cmp n) q) true (contains nat_cmp old q)) → AreSorted many numbers old → AreSorted many (numbers ++ n ∷ []) new
sorted_more many numbers n old new has sorted is_many q =
    has q
    ∙ ap (λ (b : Bool). cond b true (contains nat_cmp old q)) (is_at_number n q)
    ∙ ap (λ (b : Bool). cond (n == q) true b) (sorted is_many q)
    ∙ sym (has_more q numbers n)

-- ---- one more that waits

all_more : (m n : ℕ) (numbers : List ℕ) → m ≡ n → AllByRecursion (λ k. k ≡ m) numbers → AllByRecursion (λ k. k ≡ n) (numbers ++ n ∷ [])
all_more m n [] same all = (refl, tt)
all_more m n (k ∷ numbers) same all = (all.0 ∙ same, all_more m n numbers same all.1)

length_more : (numbers : List ℕ) (n : ℕ) → length (numbers ++ n ∷ []) ≡ length numbers + 1
length_more numbers n = length-append numbers (n ∷ [])

pub said_more : (numbers : List ℕ) (n : ℕ) (o : Option Waiter) → IsSaidOf numbers o → IsSaidOf (numbers ++ n ∷ []) (Some (one_more n o))
said_more numbers n None none = subst (λ (ns : List ℕ). IsSaidOf (ns ++ n ∷ []) (Some (One n))) (sym none) (omega arith, (refl, tt))
said_more numbers n (Some (One m)) said =
    elim (cases_Bool (m == n)) [
      | inl same ↦ rw same (omega (arith, length_more numbers n), all_more m n numbers (eqb-true m n same) said.1)
      | inr differ ↦ rw differ (omega (arith, length_more numbers n, said.0))
    ]
said_more numbers n (Some Several) said = omega (arith, length_more numbers n, said)

-- one that is among them already is said once more
pub said_again : (front : List ℕ) (n : ℕ) (o : Option Waiter) → IsSaidOf (front ++ n ∷ []) o → IsSaidOf (front ++ n ∷ []) (Some (one_more n o))
said_again front n None none = absurd (omega (arith, length_more front n, ap length none))
said_again front n (Some (One m)) said =
    let same : n ≡ m = last m front said.1 in
    rw (eq-eqb m n (sym same)) (said.0, subst (λ (k : ℕ). AllByRecursion (λ j. j ≡ k) (front ++ n ∷ [])) (sym same) said.1)
  where
    last : (m : ℕ) (numbers : List ℕ) → AllByRecursion (λ k. k ≡ m) (numbers ++ n ∷ []) → n ≡ m
    last m [] all = all.0
    last m (k ∷ numbers) all = last m numbers all.1
said_again front n (Some Several) said = said

pub said_by : (numbers numbers' : List ℕ) (o o' : Option Waiter) → numbers ≡ numbers' → o ≡ o' → IsSaidOf numbers' o' → IsSaidOf numbers o
said_by numbers numbers' o o' same said is =
    subst (λ (ns : List ℕ). IsSaidOf ns o) (sym same) (subst (λ (x : Option Waiter). IsSaidOf numbers' x) (sym said) is)

pub nobody_said : {T : Type 0} (waits : ℕ → Numbered T → Bool) (rows : List (Numbered T)) (waiters : Waiters) → ((id : ℕ) → waiter_at waiters id ≡ None) → AreSaidOf (numbers_waiting waits (take 0 rows)) waiters
nobody_said waits rows waiters none id = said_by [] [] (waiter_at waiters id) None refl (none id) refl

pub numbers_next : {T : Type 0} (waits : ℕ → Numbered T → Bool) (rows : List (Numbered T)) (k : ℕ) (h : Numbered T) (id : ℕ) → slice_get rows k ≡ Some h →
    numbers_waiting waits (take (k + 1) rows) id ≡ numbers_waiting waits (take k rows) id ++ cond (waits id h) (h.0 ∷ []) []
numbers_next {T} waits rows k h id at =
    ap (λ (j : ℕ). numbers_waiting waits (take j rows) id) (let e : k + 1 ≡ suc k = omega arith in e)
    ∙ ap (λ (rs : List (Numbered T)). numbers_waiting waits rs id) (taken_at rows k h at)
    ∙ ap (map number) (filter-append (waits id) (take k rows) (h ∷ []))
    ∙ map-append number (filter (waits id) (take k rows)) (filter (waits id) (h ∷ []))
    ∙ ap (λ (ns : List ℕ). numbers_waiting waits (take k rows) id ++ ns) (go (waits id h))
  where
    number : Numbered T → ℕ
    number r = r.0

    go : (b : Bool) → map number (cond b (h ∷ []) []) ≡ cond b (h.0 ∷ []) []
    go true = refl
    go false = refl

module _ {T : Type 0} (waits : ℕ → Numbered T → Bool) (rows : List (Numbered T)) (k : ℕ) (h : Numbered T) (at : slice_get rows k ≡ Some h) where
  -- the request at a place waits for one id
  pub said_next : (y : ℕ) (old new : Waiters) → ((id : ℕ) → waits id h ≡ (y == id)) → ((id : ℕ) → waiter_at new id ≡ cond (y == id) (Some (one_more h.0 (waiter_at old id))) (waiter_at old id)) →
      AreSaidOf (numbers_waiting waits (take k rows)) old → AreSaidOf (numbers_waiting waits (take (k + 1) rows)) new
  said_next y old new waits_for more said id =
      elim (cases_Bool (y == id)) [
        | inl same ↦
            said_by _ _ _ _ (numbers_next waits rows k h id at ∙ ap (λ (b : Bool). before ++ cond b (h.0 ∷ []) []) (waits_for id ∙ same))
            (more id ∙ ap (λ (b : Bool). cond b (Some (one_more h.0 (waiter_at old id))) (waiter_at old id)) same) (said_more before h.0 (waiter_at old id) (said id))
        | inr differ ↦
            said_by _ _ _ _ (numbers_next waits rows k h id at ∙ ap (λ (b : Bool). before ++ cond b (h.0 ∷ []) []) (waits_for id ∙ differ) ∙ append-nil before)
            (more id ∙ ap (λ (b : Bool). cond b (Some (one_more h.0 (waiter_at old id))) (waiter_at old id)) differ) (said id)
      ]
    where
      before : List ℕ
      before = numbers_waiting waits (take k rows) id

  -- it waits for none
  pub said_still : (waiters : Waiters) → ((id : ℕ) → waits id h ≡ false) → AreSaidOf (numbers_waiting waits (take k rows)) waiters → AreSaidOf (numbers_waiting waits (take (k + 1) rows)) waiters
  said_still waiters waits_for said id =
      said_by _ _ _ _ (numbers_next waits rows k h id at ∙ ap (λ (b : Bool). numbers_waiting waits (take k rows) id ++ cond b (h.0 ∷ []) []) (waits_for id) ∙ append-nil (numbers_waiting waits (take k rows) id))
      refl (said id)

-- ---- the first that has not ended

abbrev pub not_ended : {T : Type 0} → List ℕ → List (Numbered T) → List (Numbered T)
not_ended ended rows = filter (λ h. not (has_number h.0 ended)) rows

-- tests in either order
tests_either_way : {X : Type 0} (p q : X → Bool) (xs : List X) → filter p (filter q xs) ≡ filter q (filter p xs)
tests_either_way p q [] = refl
tests_either_way {X} p q (x ∷ xs) = go (p x) (q x) refl refl (tests_either_way p q xs)
  where
    first : (t : X → Bool) (ys : List X) (b : Bool) → t x ≡ b → filter t (x ∷ ys) ≡ cond b (x ∷ filter t ys) (filter t ys)
    first t ys b is = ap (λ (d : Bool). cond d (x ∷ filter t ys) (filter t ys)) is

    go : (b d : Bool) → p x ≡ b → q x ≡ d → filter p (filter q xs) ≡ filter q (filter p xs) → filter p (cond d (x ∷ filter q xs) (filter q xs)) ≡ filter q (cond b (x ∷ filter p xs) (filter p xs))
    go true true by_p by_q more = first p (filter q xs) true by_p ∙ ap (λ (ys : List X). x ∷ ys) more ∙ sym (first q (filter p xs) true by_q)
    go true false by_p by_q more = more ∙ sym (first q (filter p xs) false by_q)
    go false true by_p by_q more = first p (filter q xs) false by_p ∙ more
    go false false by_p by_q more = more

pub filtered_in : {X : Type 0} (p : X → Bool) (xs : List X) (x : X) → Contains (filter p xs) x → Contains xs x
filtered_in p [] x has = has
filtered_in {X} p (y ∷ xs) x has =
    elim (cases_Bool (p y)) [
      | inl yes' ↦ elim (in_cases y (filter p xs) x (rw yes' at has)) [
        | inl same ↦ subst (λ (z : X). Contains (y ∷ xs) z) same (first_in y xs)
        | inr there ↦ later_in y xs x (filtered_in p xs x there)
      ]
      | inr no' ↦ later_in y xs x (filtered_in p xs x (rw no' at has))
    ]

module _ {T : Type 0} (ended : List ℕ) (waits : Numbered T → Bool) where
  abbrev names : List (Numbered T) → List ℕ
  names rows = map (λ h. h.0) rows

  none_left : (n : ℕ) (rows : List (Numbered T)) → AllByRecursion (λ m. m ≡ n) (names rows) → has_number n ended ≡ true → not_ended ended rows ≡ []
  none_left n [] all gone = refl
  none_left n (h ∷ rows) all gone = rw (ap (λ (m : ℕ). has_number m ended) all.0 ∙ gone) (none_left n rows all.1 gone)

  nothing_named : (rows : List (Numbered T)) → names rows ≡ [] → rows ≡ []
  nothing_named [] none = refl
  nothing_named (h ∷ rows) none = absurd (let no : h.0 ∷ names rows ≡ [] = none in cc)

  -- of those who wait, the first that has not ended
  first_left : (rows : List (Numbered T)) → slice_get (filter waits (not_ended ended rows)) 0 ≡ slice_get (not_ended ended (filter waits rows)) 0
  first_left rows = ap (λ (rs : List (Numbered T)). slice_get rs 0) (tests_either_way waits (λ (h : Numbered T). not (has_number h.0 ended)) rows)

  pub nobody_waits : (rows : List (Numbered T)) → names (filter waits rows) ≡ [] → slice_get (filter waits (not_ended ended rows)) 0 ≡ None
  nobody_waits rows none = first_left rows ∙ ap (λ (rs : List (Numbered T)). slice_get (not_ended ended rs) 0) (nothing_named (filter waits rows) none)

  pub one_has_ended : (rows : List (Numbered T)) (n : ℕ) → AllByRecursion (λ m. m ≡ n) (names (filter waits rows)) → has_number n ended ≡ true → slice_get (filter waits (not_ended ended rows)) 0 ≡ None
  one_has_ended rows n all gone = first_left rows ∙ ap (λ (rs : List (Numbered T)). slice_get rs 0) (none_left n (filter waits rows) all gone)

  pub record IsFirstLeft (rows : List (Numbered T)) (n : ℕ) : Type 0 where
    pub row : Numbered T
    pub first : slice_get (filter waits (not_ended ended rows)) 0 ≡ Some row
    pub number : row.0 ≡ n
    pub has : Contains rows row

  pub one_waits : (rows : List (Numbered T)) (n : ℕ) → 1 ≤ length (names (filter waits rows)) → AllByRecursion (λ m. m ≡ n) (names (filter waits rows)) → has_number n ended ≡ false → IsFirstLeft rows n
  one_waits rows n some all there = go (filter waits rows) refl some all
    where
      go : (those : List (Numbered T)) → filter waits rows ≡ those → 1 ≤ length (names those) → AllByRecursion (λ m. m ≡ n) (names those) → IsFirstLeft rows n
      go [] is some all = absurd (omega (arith, some))
      go (h ∷ those) is some all = record {
        row = h;
        first = first_left rows ∙ ap (λ (rs : List (Numbered T)). slice_get (not_ended ended rs) 0) is
            ∙ ap (λ (b : Bool). slice_get (cond (not b) (h ∷ not_ended ended those) (not_ended ended those)) 0) (ap (λ (m : ℕ). has_number m ended) all.0 ∙ there);
        number = all.0;
        has = filtered_in waits rows h (subst (λ (rs : List (Numbered T)). Contains rs h) (sym is) (first_in h those));
      }
