-- What is said to a message has its cause, part by part, whoever says it; and small facts about tests.
use Rattle.std.proofs.Common.{◌≡◌, ℕ, ◌^◌, ◌-◌, ◌==◌, nat_le, Bool, true, false, List, [], ◌∷◌, ◌++◌, length, sym, ◌∙◌, ap, subst, inl, inr, refl, eqb-true, eq-eqb, leb-true, le-leb}
use Rattle.std.proofs.lemmas.Bool.{cases_Bool}
use Rattle.std.specs.Prelude.{◌⊎◌, Contains}
use Rattle.plant_model.specs.Types.{Peer, Message, Asked}
use Rattle.pcep_codes.specs.declared.errors.TheConstants as errors
use Rattle.request_table.specs.Pending.{Pending, IsFull, is_full}
use Rattle.plant_model.specs.declared.output.Output.{Output}
use Rattle.plant_model.specs.Names.{has_pair}
use Rattle.plant_laws.specs.MessageCauses.{Asker, Part, alone, OnPart, OnParts, IsError, IsOutOfProfile}
use Rattle.std.proofs.lemmas.List.Elements.{Contains-append_cases}
use Rattle.plant_laws.proofs.Runs.Decompose.{append_assoc}
use Rattle.plant_laws.proofs.Once.Handing.{In}
use Rattle.plant_laws.proofs.Runs.Lists.{one_of, stands_of, first_in, later_in}

pub not_both : {X : Type 0} (b : Bool) → b ≡ true → b ≡ false → X
not_both true e f = cc
not_both false e f = cc

-- ---- tests

pub full_is : {T : Type 0} (k : Pending T) → is_full k ≡ true → IsFull k
full_is k e = elim (cases_Bool (nat_le k.limit (length k.rows))) [
  | inl few ↦ inl (leb-true k.limit (length k.rows) few)
  | inr more ↦ inr (eqb-true k.given (2 ^ 64 - 1) (rw more at e))
]

pub has_room : {T : Type 0} (k : Pending T) → is_full k ≡ false → ¬ IsFull k
has_room k e full = elim full [
  | inl few ↦ not_both (is_full k) (let hit = le-leb k.limit (length k.rows) few in rw hit refl) e
  | inr last ↦ not_both (is_full k) (let hit = eq-eqb k.given (2 ^ 64 - 1) last in elim (cases_Bool (nat_le k.limit (length k.rows))) [ inl few ↦ rw few refl | inr more ↦ rw (more, hit) refl ]) e
]

abbrev pub IsPair : ℕ → ℕ → ℕ × ℕ → Type 0
IsPair a b x = (x.0 ≡ a) × (x.1 ≡ b)

pub pair_at : (a b : ℕ) (x : ℕ × ℕ) (rest : List (ℕ × ℕ)) → has_pair a b (x ∷ rest) ≡ true → IsPair a b x ⊎ (has_pair a b rest ≡ true)
pair_at a b x rest e = elim (cases_Bool (x.0 == a)) [
  | inl first ↦ elim (cases_Bool (x.1 == b)) [
    | inl second ↦ inl (eqb-true x.0 a first, eqb-true x.1 b second)
    | inr miss ↦ inr (rw (first, miss) at e)
  ]
  | inr miss ↦ inr (rw miss at e)
]

pub no_pair : (a b : ℕ) (x : ℕ × ℕ) (rest : List (ℕ × ℕ)) → has_pair a b (x ∷ rest) ≡ false → (¬ IsPair a b x) × (has_pair a b rest ≡ false)
no_pair a b x rest e = elim (cases_Bool (x.0 == a)) [
  | inl first ↦ elim (cases_Bool (x.1 == b)) [
    | inl second ↦ absurd (let no : true ≡ false = rw (first, second) at e in cc)
    | inr miss ↦ (λ is. not_both (x.1 == b) (eq-eqb x.1 b is.1) miss, rw (first, miss) at e)
  ]
  | inr miss ↦ (λ is. not_both (x.0 == a) (eq-eqb x.0 a is.0) miss, rw miss at e)
]

-- ---- errors

module _ (e : ℕ × ℕ) where
  pub unknown_is : has_pair errors.UNKNOWN_REQUEST.0 errors.UNKNOWN_REQUEST.1 (e ∷ []) ≡ true → IsError e errors.UNKNOWN_REQUEST
  unknown_is hit = elim (pair_at errors.UNKNOWN_REQUEST.0 errors.UNKNOWN_REQUEST.1 e [] hit) [ inl is ↦ is | inr none ↦ (let clash : false ≡ true = none in cc) ]

  pub profile_is : has_pair e.0 e.1 (errors.PARAMETER_NOT_SERVED ∷ errors.CHAIN_FAILED ∷ []) ≡ true → IsOutOfProfile e
  profile_is hit = elim (pair_at e.0 e.1 errors.PARAMETER_NOT_SERVED (errors.CHAIN_FAILED ∷ []) hit) [
    | inl is ↦ inl (sym is.0, sym is.1)
    | inr more ↦ elim (pair_at e.0 e.1 errors.CHAIN_FAILED [] more) [ inl is ↦ inr (sym is.0, sym is.1) | inr none ↦ (let clash : false ≡ true = none in cc) ]
  ]

  pub in_profile : has_pair e.0 e.1 (errors.PARAMETER_NOT_SERVED ∷ errors.CHAIN_FAILED ∷ []) ≡ false → ¬ IsOutOfProfile e
  in_profile miss out =
      let first = no_pair e.0 e.1 errors.PARAMETER_NOT_SERVED (errors.CHAIN_FAILED ∷ []) miss in
      let second = no_pair e.0 e.1 errors.CHAIN_FAILED [] first.1 in
      elim out [ inl is ↦ first.0 (sym is.0, sym is.1) | inr is ↦ second.0 (sym is.0, sym is.1) ]

-- ---- parts

module _ (K : Type 0) (Waiting : K → ℕ → Asker → Type 0) (OnAsked : Asked → K → List Output → Type 0) (left : Message → K → K) (of_parent : Bool) (p : Peer) where
  abbrev pub On : Part → K → List Output → Type 0
  On x k os = OnPart K Waiting OnAsked left of_parent p x k os

  abbrev pub Ons : List Part → K → List Output → Type 0
  Ons xs k os = OnParts K Waiting OnAsked left of_parent p xs k os

  -- what all of them leave
  abbrev pub left_by : List Part → K → K
  left_by [] k = k
  left_by (x ∷ xs) k = left_by xs (left (alone x) k)

  pub on_append : (xs ys : List Part) (k : K) (os os' : List Output) → Ons xs k os → Ons ys (left_by xs k) os' → Ons (xs ++ ys) k (os ++ os')
  on_append [] ys k os os' none h = subst (λ (l : List Output). Ons ys k (l ++ os')) (sym none) h
  on_append (x ∷ xs) ys k os os' h h' =
      (h.0, h.1 ++ os', ap (λ (l : List Output). l ++ os') h.2 ∙ append_assoc h.0 h.1 os', h.3, on_append xs ys (left (alone x) k) h.1 os' h.4 h')

  pub on_more : (x : Part) (xs : List Part) (k k' : K) (first rest : List Output) → left (alone x) k ≡ k' → On x k first → Ons xs k' rest → Ons (x ∷ xs) k (first ++ rest)
  on_more x xs k k' first rest same h h' = (first, rest, refl, h, subst (λ (z : K). Ons xs z rest) (sym same) h')

-- ---- members

pub contains_at : {A : Type 0} (x : A) (xs : List A) → In x xs → Contains xs x
contains_at x [] none = absurd none
contains_at x (y ∷ ys) (inl same) = subst (λ (z : _). Contains (y ∷ ys) z) (sym same) (first_in y ys)
contains_at x (y ∷ ys) (inr more) = later_in y ys x (contains_at x ys more)

pub in_at : {A : Type 0} (x : A) (xs : List A) → Contains xs x → In x xs
in_at x [] has = absurd (let none = stands_of [] x has in none)
in_at x (y ∷ ys) has = elim (Contains-append_cases (y ∷ []) ys x has) [ inl here ↦ inl (sym (one_of y x here)) | inr there ↦ inr (in_at x ys there) ]
