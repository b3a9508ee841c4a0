-- A path that begins at the source.
use Rattle.std.proofs.Common.{◌≡◌, ◌<◌, ◌≤◌, ◌-◌, ℕ, List, [], ◌∷◌, length, take, drop, get_or, None, Some, sym, ◌∙◌, ap, subst, arith}
use Rattle.std.specs.Prelude.{MatchOption}
use Rattle.std.specs.declared.option.Option.{Option}
use Rattle.std.proofs.lemmas.List.{take_all}
use Rattle.dom_base.specs.declared.addr.Addr.{Addr}
use Rattle.dom_base.specs.declared.query.Label.{Label}
use Rattle.dom_base.specs.declared.query.Query.{Query}
use Rattle.dom_base.specs.declared.query.Seed.{Seed}
use Rattle.te_links.specs.Rows.{Rows}
use Rattle.walk_laws.specs.Certificate.{Labelling}
use Rattle.path_certificate.specs.Claims.{LeadsOver, PathHoldsAt}

-- what a pattern `[first, fars @ ..]` takes apart
pub first_and_rest : (xs : List Addr) (d : Addr) → 1 ≤ length xs → xs ≡ get_or xs 0 d ∷ take (length xs - 1) (drop 1 xs)
first_and_rest [] d some = absurd (omega (arith, some))
first_and_rest (y ∷ ys) d some = ap (λ zs. y ∷ zs) (sym (take_all (length (y ∷ ys) - 1) ys (omega arith)))

pub path_told : (g : Rows) (q : Query) (seeds : List Seed) (label : Labelling) (source first : Addr) (fars : List Addr) (a : Label) (r : Option ℕ)
    → label source ≡ Some a → first ≡ source
    → MatchOption r ((k : ℕ) → LeadsOver g q seeds label source a fars k)
    (λ k. (¬ LeadsOver g q seeds label source a fars k) × ((j : ℕ) → j < k → LeadsOver g q seeds label source a fars j))
    → MatchOption r ((k : ℕ) → PathHoldsAt g q seeds label source (Some (first ∷ fars)) k)
    (λ k. (¬ PathHoldsAt g q seeds label source (Some (first ∷ fars)) k) × ((j : ℕ) → j < k → PathHoldsAt g q seeds label source (Some (first ∷ fars)) j))
path_told g q seeds label source first fars a None at begins leads = λ k. (a, at, begins, leads k)
path_told g q seeds label source first fars a (Some k) at begins stops = (
  λ holds.
      let both : Some holds.0 ≡ Some a = sym holds.1 ∙ at in
      let same : holds.0 ≡ a = cc in
      stops.0 (subst (λ (b : Label). LeadsOver g q seeds label source b fars k) same holds.3),
  λ j below. (a, at, begins, stops.1 j below),
)
