-- Values at two names: at a pair that was set, and at others.
use Rattle.std.proofs.Common.{◌≡◌, ◌∙◌, Bool, true, false, cond, List, [], ◌∷◌, inl, inr, refl, sym, subst}
use Rattle.std.proofs.lemmas.Bool.{cases_Bool, eq-eqb}
use Rattle.plant_laws.specs.plant_model.Types.{As}
use Rattle.plant_text.specs.Names.{same_as}
use Rattle.plant_text.specs.Settings.{Adjacency}
use Rattle.plant_laws.specs.plant_model.Names.{set_pair}
use Rattle.plant_laws.proofs.Runs.Queues.{same_as_is}

-- both ends of each link differ
abbrev pub AllApart : List Adjacency → Type 0
AllApart [] = Unit {0}
AllApart (x ∷ xs) = (same_as x.lower x.upper ≡ false) × AllApart xs

-- the same pair
abbrev pub both : As → As → As → As → Bool
both a b a' b' = cond (same_as a a') (same_as b b') false

pub same_self : (a : As) → same_as a a ≡ true
same_self a = eq-eqb a.0 a.0 refl

pub same_back : (a b : As) → same_as a b ≡ false → same_as b a ≡ false
same_back a b apart = elim (cases_Bool (same_as b a)) [
  | inr miss ↦ miss
  | inl hit ↦
      let same : b ≡ a = same_as_is b a hit in
      absurd (clash (subst (λ (z : As). same_as a z ≡ false) same apart))
]
  where
    clash : same_as a a ≡ false → ⊥
    clash miss = let no : true ≡ false = sym (same_self a) ∙ miss in cc

pub both_are : (a b a' b' : As) → both a b a' b' ≡ true → (a ≡ a') × (b ≡ b')
both_are a b a' b' e = go (same_as a a') (same_as b b') refl refl e
  where
    go : (t u : Bool) → same_as a a' ≡ t → same_as b b' ≡ u → cond t u false ≡ true → (a ≡ a') × (b ≡ b')
    go true true is is' e = (same_as_is a a' is, same_as_is b b' is')
    go true false is is' e = cc
    go false u is is' e = cc

pub both_flips : (a b a' b' : As) → both a b a' b' ≡ both b a b' a'
both_flips a b a' b' = go (same_as a a') (same_as b b')
  where
    go : (t u : Bool) → cond t u false ≡ cond u t false
    go true true = refl
    go true false = refl
    go false true = refl
    go false false = refl

pub first_apart : (a b a' b' : As) → same_as a a' ≡ false → both a b a' b' ≡ false
first_apart a b a' b' miss = rw miss refl

pub second_apart : (a b a' b' : As) → same_as b b' ≡ false → both a b a' b' ≡ false
second_apart a b a' b' miss = go (same_as a a')
  where
    go : (t : Bool) → cond t (same_as b b') false ≡ false
    go true = miss
    go false = refl

module _ {A : Type 0} where
  pub set_here : (a b : As) (v : A) (f : As → As → A) → set_pair a b v f a b ≡ v
  set_here a b v f = rw (same_self a) (rw (same_self b) refl)

  pub set_other : (a b : As) (v : A) (f : As → As → A) (a' b' : As) → both a b a' b' ≡ false → set_pair a b v f a' b' ≡ f a' b'
  set_other a b v f a' b' miss = go (same_as a a') (same_as b b') refl refl miss
    where
      go : (t u : Bool) → same_as a a' ≡ t → same_as b b' ≡ u → cond t u false ≡ false → cond t (cond u v (f a' b')) (f a' b') ≡ f a' b'
      go true true is is' e = cc
      go true false is is' e = refl
      go false u is is' e = refl

  -- what holds at the pair and at each other holds at all
  pub set_all : (Q : As → As → A → Type 0) (a b : As) (v : A) (f : As → As → A) → Q a b v → ((a' b' : As) → both a b a' b' ≡ false → Q a' b' (f a' b')) → (a' b' : As) → Q a' b' (set_pair a b v f a' b')
  set_all Q a b v f here others a' b' = elim (cases_Bool (both a b a' b')) [
    | inl hit ↦
        let same = both_are a b a' b' hit in
        subst (λ (z : As). Q z b' (set_pair a b v f z b')) same.0 (subst (λ (z : As). Q a z (set_pair a b v f a z)) same.1 (subst (λ (w : A). Q a b w) (sym (set_here a b v f)) here))
    | inr miss ↦ subst (λ (w : A). Q a' b' w) (sym (set_other a b v f a' b' miss)) (others a' b' miss)
  ]
