-- How often domains in a row go from one to another: once at most, where each stands there once.
use Rattle.std.proofs.Common.{◌≡◌, ◌≢◌, ◌≤◌, ◌<◌, ◌+◌, ℕ, suc, Bool, true, false, cond, List, [], ◌∷◌, length, inl, inr, refl, sym, ◌∙◌, ap, arith}
use Rattle.std.specs.Prelude.{AllPairs, slice_index_or}
use Rattle.std.specs.List.{AllByRecursion}
use Rattle.std.proofs.lemmas.Bool.{cases_Bool}
use Rattle.plant_laws.specs.plant_model.Types.{As}
use Rattle.plant_text.specs.Names.{same_as, parent_as}
use Rattle.plant_laws.specs.Transcript.{one_if}
use Rattle.plant_laws.proofs.Runs.Queues.{same_as_is}

module _ (x y : As) where
  abbrev pub goes : As → As → Bool
  goes a b = cond (same_as a x) (same_as b y) false

  abbrev pub steps : List As → ℕ
  steps [] = 0
  steps (a ∷ []) = 0
  steps (a ∷ b ∷ rest) = one_if (goes a b) + steps (b ∷ rest)

  -- What a request may bring about along these domains. One of any domain may go to the parent in their place, and ends there.
  abbrev pub route_heavy : List As → ℕ
  route_heavy l = cond (same_as y parent_as) 1 (steps l)

  -- from one that does not stand there it never goes
  none_steps : (l : List As) → AllByRecursion (λ (a : As). x ≢ a) l → steps l ≡ 0
  none_steps [] apart = omega arith
  none_steps (a ∷ []) apart = omega arith
  none_steps (a ∷ b ∷ rest) apart = elim (cases_Bool (same_as a x)) [
    | inl hit ↦ absurd (apart.0 (sym (same_as_is a x hit)))
    | inr miss ↦
        let here : one_if (goes a b) ≡ 0 = ap (λ (t : Bool). one_if (cond t (same_as b y) false)) miss in
        let more = none_steps (b ∷ rest) apart.1 in
        omega (arith, here, more)
  ]

  all_apart : (own : As) (l : List As) → ((j : ℕ) (d : As) → j < length l → own ≢ slice_index_or l j d) → own ≡ x → AllByRecursion (λ (a : As). x ≢ a) l
  all_apart own [] each is = tt
  all_apart own (a ∷ l) each is = ((λ e. each 0 own (omega arith) (is ∙ e)), all_apart own l (λ j d lt. each (suc j) d (omega (arith, lt))) is)

  pub few_steps : (own : As) (rest : List As) → AllPairs (λ (a b : As). a ≢ b) (own ∷ rest) → steps (own ∷ rest) ≤ 1
  few_steps own [] differ = omega arith
  few_steps own (b ∷ more) differ = elim (cases_Bool (goes own b)) [
    | inl hit ↦
        let here : one_if (goes own b) ≡ 1 = ap one_if hit in
        let none = none_steps (b ∷ more) (all_apart own (b ∷ more) (λ j d lt. differ 0 (suc j) d (omega arith) (omega (arith, lt))) (from hit)) in
        omega (arith, here, none)
    | inr miss ↦
        let here : one_if (goes own b) ≡ 0 = ap one_if miss in
        let rest' = few_steps b more (λ i j d lt le. differ (suc i) (suc j) d (omega (arith, lt)) (omega (arith, le))) in
        omega (arith, here, rest')
  ]
    where
      from : goes own b ≡ true → own ≡ x
      from hit = go (same_as own x) refl hit
        where
          go : (t : Bool) → same_as own x ≡ t → cond t (same_as b y) false ≡ true → own ≡ x
          go true is e = same_as_is own x is
          go false is e = absurd (let clash : false ≡ true = e in cc)

  -- a request is sent to the parent, which asks nobody
  pub up_steps : (l : List As) → cond (same_as y parent_as) 1 0 ≤ route_heavy l
  up_steps l = go (same_as y parent_as)
    where
      go : (t : Bool) → cond t 1 0 ≤ cond t 1 (steps l)
      go true = omega arith
      go false = omega arith

  -- or to the next
  pub on_steps : (own next : As) (more : List As) → next ≢ parent_as → one_if (goes own next) + route_heavy (next ∷ more) ≤ route_heavy (own ∷ next ∷ more)
  on_steps own next more real = go (same_as y parent_as) refl
    where
      apart : y ≡ parent_as → (t u : Bool) → same_as next y ≡ u → one_if (cond t u false) ≡ 0
      apart is true true e = absurd (real (same_as_is next y e ∙ is))
      apart is true false e = omega arith
      apart is false u e = omega arith

      go : (t : Bool) → same_as y parent_as ≡ t → one_if (goes own next) + cond t 1 (steps (next ∷ more)) ≤ cond t 1 (one_if (goes own next) + steps (next ∷ more))
      go true is = let none = apart (same_as_is y parent_as is) (same_as own x) (same_as next y) refl in omega (arith, none)
      go false is = omega arith

  pub few_routes : (own : As) (rest : List As) → AllPairs (λ (a b : As). a ≢ b) (own ∷ rest) → route_heavy (own ∷ rest) ≤ 1
  few_routes own rest differ = go (same_as y parent_as)
    where
      go : (t : Bool) → cond t 1 (steps (own ∷ rest)) ≤ 1
      go true = omega arith
      go false = few_steps own rest differ

  pub alone_routes : (own : As) → route_heavy (own ∷ []) ≤ 1
  alone_routes own = go (same_as y parent_as)
    where
      go : (t : Bool) → cond t 1 0 ≤ 1
      go true = omega arith
      go false = omega arith
