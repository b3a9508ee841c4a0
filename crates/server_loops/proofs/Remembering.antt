-- Keys that were asked for.
use Rattle.std.proofs.Common.{◌≡◌, ◌∙◌, inl, inr, true, false, List, ◌∷◌, [], None, Some, refl, sym, ap, subst}
use Rattle.std.specs.Prelude.{◌↔◌, Contains, is_some}
use Rattle.std.specs.Map.{lookup}
use Rattle.std.specs.declared.option.Option.{Option}
use Rattle.lru.proofs.Splits.{Contains-cons, Contains-nil}
use Rattle.lru.proofs.CallerLemmas.{Contains-lookup}
use Rattle.cost_cache.specs.declared.key.Key.{Key}
use Rattle.cost_cache.specs.Keys.{same_key}
use Rattle.cost_cache.specs.SameKeys.{same_key-Decides}
use Rattle.server_loops.specs.WorkerSteps.{Asked, IsAsked}

-- a key that a look-up finds is there
asked_found : (key : Key) (es : List (Key × Unit {0})) (u : Unit {0}) → lookup (same_key key) es ≡ Some u → Contains es (key, u)
asked_found key es u is =
    let has = Contains-lookup (same_key key) es u is in
    subst (λ (k : Key). Contains es (k, u)) (sym ((same_key-Decides key has.0).0 has.2)) has.1

-- one that it does not find is not
asked_not_found : (key : Key) (es : List (Key × Unit {0})) (u : Unit {0}) → lookup (same_key key) es ≡ None → Contains es (key, u) → ⊥
asked_not_found key [] u is has = Contains-nil (key, u) has
asked_not_found key (e ∷ es) u is has =
    (elim (same_key key e.0) as (λ b. same_key key e.0 ≡ b → ⊥) [
      | true ↦ λ t. let some : Some e.1 ≡ None = rw t at is in cc
      | false ↦ λ t. elim (Contains-cons e es (key, u) has) [
        | inl one ↦
            let self : same_key key e.0 ≡ true = (same_key-Decides key e.0).1 (ap (λ (p : Key × Unit {0}). p.0) (sym one)) in
            let bad : false ≡ true = sym t ∙ self in
            cc
        | inr there ↦ asked_not_found key es u (rw t at is) there
      ]
    ]) refl

-- a look-up tells whether it is there
pub asked_by : (asked : Asked) (key : Key) (o : Option (Unit {0})) → o ≡ lookup (same_key key) asked.entries → (is_some o ≡ true) ↔ IsAsked asked key
asked_by asked key None at = (λ is. absurd (let no : false ≡ true = is in cc), λ has. absurd (asked_not_found key asked.entries tt (sym at) has))
asked_by asked key (Some u) at = (λ is. asked_found key asked.entries u (sym at), λ has. refl)
