-- The seeds with one exit.
use Rattle.std.proofs.Common.{◌≡◌, ◌∙◌, inl, inr, List, [], ◌∷◌, ◌++◌, sym, ap, subst}
use Rattle.std.specs.Prelude.{Contains}
use Rattle.std.proofs.lemmas.List.Elements.{Contains-push, Contains-push_cases, Contains-append_left}
use Rattle.dom_base.specs.AddrOrder.{rank}
use Rattle.dom_base.specs.declared.addr.Addr.{Addr}
use Rattle.dom_base.specs.declared.query.Seed.{Seed}
use Rattle.dom_base.specs.declared.query.Label.{Label}
use Rattle.walk_laws.specs.Labels.{EndsAt}
use Rattle.path_search.specs.Segments.{AreBy, KeepsBy}

stands_last : (xs : List Seed) (x s : Seed) → x ≡ s → Contains (xs ++ x ∷ []) s
stands_last xs x s same = subst (λ (t : Seed). Contains (xs ++ x ∷ []) t) same (Contains-push xs x)

-- one more seed was looked at
pub by_more : (exit : Addr) (seeds own new : List Seed) (seed : Seed) → AreBy exit seeds own → KeepsBy exit seed own new → AreBy exit (seeds ++ seed ∷ []) new
by_more exit seeds own new seed are (inl keeps) = record {
  kept = λ s at has. subst (λ (xs : List Seed). Contains xs s) (sym keeps.1)
      (elim (Contains-push_cases seeds seed s has) [ inl old ↦ Contains-append_left own (seed ∷ []) s (are.kept s at old) | inr same ↦ stands_last own seed s same ]);
  only = λ s has.
      elim (Contains-push_cases own seed s (subst (λ (xs : List Seed). Contains xs s) keeps.1 has)) [
        | inl old ↦ Contains-append_left seeds (seed ∷ []) s (are.only s old)
        | inr same ↦ stands_last seeds seed s same
      ];
}
by_more exit seeds own new seed are (inr drops) = record {
  kept = λ s at has. subst (λ (xs : List Seed). Contains xs s) (sym drops.1)
      (elim (Contains-push_cases seeds seed s has) [ inl old ↦ are.kept s at old | inr same ↦ absurd (drops.0 (ap (λ (t : Seed). rank t.exit) same ∙ at)) ]);
  only = λ s has. Contains-append_left seeds (seed ∷ []) s (are.only s (subst (λ (xs : List Seed). Contains xs s) drops.1 has));
}

-- where a segment ends these seeds tell as all do
pub ends_by_all : (exit : Addr) (seeds own : List Seed) (node : Addr) (a : Label) → AreBy exit seeds own → EndsAt own node a → EndsAt seeds node a
ends_by_all exit seeds own node a are ends = are.only (record { node = node; cost = a.cost; exit = a.exit }) ends

pub ends_by_own : (exit : Addr) (seeds own : List Seed) (node : Addr) (a : Label) → AreBy exit seeds own → a.exit ≡ exit → EndsAt seeds node a → EndsAt own node a
ends_by_own exit seeds own node a are same ends = are.kept (record { node = node; cost = a.cost; exit = a.exit }) (ap rank same) ends
