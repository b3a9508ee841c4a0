-- Which exclusions of a list that grows demand something.
use Rattle.std.proofs.Common.{◌≡◌, ◌⊎◌, ◌++◌, ◌∷◌, List, [], inl, inr, sym, subst, arith}
use Rattle.std.specs.Prelude.{◌↔◌, Contains}
use Rattle.std.proofs.lemmas.List.Elements.{Contains-append_left, Contains-push, Contains-push_cases}
use Rattle.dom_base.specs.declared.query.Exclusion.{Exclusion}
use Rattle.dom_base.specs.declared.query.Excluded.{Excluded}
use Rattle.path_constraints.specs.Tables.{Demands, SomeDemands}

pub none_demands : (Names : Excluded → Type 0) (A : Type 0) → (A → ⊥) → A ↔ SomeDemands Names []
none_demands Names A never = (λ a. absurd (never a), λ some. absurd (let at = some.1 in omega (arith, at.1)))

pub one_more : (Names : Excluded → Type 0) (list more : List Exclusion) (row : Exclusion) → more ≡ list ++ row ∷ [] → SomeDemands Names more ↔ (SomeDemands Names list ⊎ Demands Names row)
one_more Names list more row is = (forth, back)
  where
    forth : SomeDemands Names more → SomeDemands Names list ⊎ Demands Names row
    forth some = elim (Contains-push_cases list row some.0 (subst (λ (xs : List Exclusion). Contains xs some.0) is some.1)) [
      | inl old ↦ inl (some.0, old, some.2)
      | inr same ↦ inr (subst (Demands Names) (sym same) some.2)
    ]

    back : SomeDemands Names list ⊎ Demands Names row → SomeDemands Names more
    back (inl some) = (some.0, subst (λ (xs : List Exclusion). Contains xs some.0) (sym is) (Contains-append_left list (row ∷ []) some.0 some.1), some.2)
    back (inr demands) = (row, subst (λ (xs : List Exclusion). Contains xs row) (sym is) (Contains-push list row), demands)

-- what holds just where the first rows demand it, and is added where the next one does
pub demands_more : (Names : Excluded → Type 0) (list more : List Exclusion) (row : Exclusion) (A B : Type 0) → more ≡ list ++ row ∷ [] → A ↔ SomeDemands Names list → B ↔ (A ⊎ Demands Names row) → B ↔ SomeDemands Names more
demands_more Names list more row A B is before adds = (λ b. (one_more Names list more row is).1 (forth (adds.0 b)), λ some. adds.1 (back ((one_more Names list more row is).0 some)))
  where
    forth : A ⊎ Demands Names row → SomeDemands Names list ⊎ Demands Names row
    forth (inl a) = inl (before.0 a)
    forth (inr demands) = inr demands

    back : SomeDemands Names list ⊎ Demands Names row → A ⊎ Demands Names row
    back (inl some) = inl (before.1 some)
    back (inr demands) = inr demands
