-- What one relaxation keeps and lowers.
use Rattle.std.proofs.Common.{◌≡◌, ◌≢◌, inl, inr, ℕ, ◌+◌, ◌<◌, ◌≤◌, ◌^◌, List, ◌∷◌, length, arith, refl, sym, ◌∙◌, ap, subst, None, Some}
use Rattle.std.specs.Prelude.{slice_set, sum_by}
use Rattle.std.specs.declared.option.Option.{Option}
use Rattle.std.proofs.lemmas.Bool.Decides.{eqb_tells}
use Rattle.std.proofs.lemmas.List.{get_or-set_same, get_or-set_other}
use Rattle.std.proofs.Math.ListN.{length-set}
use Rattle.std.proofs.lemmas.List.Sums.{sum_by-set}
use Rattle.pce_common.specs.plant_model.declared.upper.BorderJob.{BorderJob}
use Rattle.pce_common.specs.plant_model.BorderGraph.{Vertex}
use Rattle.pce_parent.specs.declared.arcs.Arc.{Arc}
use Rattle.pce_parent.specs.declared.spot.Spot.{Spot}
use Rattle.pce_parent.specs.Places.{IsAt}
use Rattle.dom_base.specs.Costs.{IsLess}
use Rattle.pce_parent.specs.Costs.{cost_at, Reaches, IsStep, AreReached, IsRelaxed, height, potential, Falls}

some_is : (a b : ℕ) → Some a ≡ Some b → a ≡ b
some_is a b is = cc

module _ (j : BorderJob) (spots : List Spot) (a : Arc) (old new : List (Option ℕ)) (rest found : ℕ)
    (step : IsStep j spots a) (reached : AreReached j spots old) (at_head : cost_at old a.to ≡ Some rest) (sum : found ≡ a.cost + rest)
    (within : found ≤ j.query.cap) (better : IsLess found (cost_at old a.from)) (is : new ≡ slice_set old a.from (Some found)) where
  below : a.from < length old
  below = omega (arith, step.tail, reached.same_length)

  here : cost_at new a.from ≡ Some found
  here = rw is (get_or-set_same old a.from (Some found) None below)

  others : (k : ℕ) → k ≢ a.from → cost_at new k ≡ cost_at old k
  others k other = rw is (get_or-set_other old a.from k (Some found) None other)

  by_arc : (v : Vertex) → IsAt spots v a.from → Reaches j v found
  by_arc v stands =
      let e = step.edge v stands in
      let u : Vertex = e.0 in
      let way : Reaches j u rest = reached.walks a.to rest u at_head e.2 in
      (u ∷ way.0, (e.1, rest, e.3, way.1, sum ∙ ap (λ n. n + rest) (sym e.4)))

  no_end : (o : Option ℕ) → cost_at old a.from ≡ o → o ≡ Some 0 → ⊥
  no_end None here' is0 = cc
  no_end (Some c) here' is0 =
      let lt : found < c = subst (IsLess found) here' better in
      omega (arith, lt, some_is c 0 is0)

  pub lowered : AreReached j spots new
  lowered = record {
    same_length = ap length is ∙ length-set old a.from (Some found) ∙ reached.same_length;
    within = λ k c at_k.
        elim (eqb_tells k a.from) [
          | inl same ↦ let one : found ≡ c = some_is found c (sym here ∙ ap (cost_at new) (sym same.1) ∙ at_k) in omega (arith, within, one)
          | inr other ↦ reached.within k c (sym (others k other.1) ∙ at_k)
        ];
    walks = λ k c v at_k stands.
        elim (eqb_tells k a.from) [
          | inl same ↦
              let one : found ≡ c = some_is found c (sym here ∙ ap (cost_at new) (sym same.1) ∙ at_k) in
              subst (Reaches j v) one (by_arc v (subst (IsAt spots v) same.1 stands))
          | inr other ↦ reached.walks k c v (sym (others k other.1) ∙ at_k) stands
        ];
    ends = λ k v stands ends.
        elim (eqb_tells k a.from) [
          | inl same ↦ absurd (no_end (cost_at old a.from) refl (ap (cost_at old) (sym same.1) ∙ reached.ends k v stands ends))
          | inr other ↦ others k other.1 ∙ reached.ends k v stands ends
        ];
  }

  drops : (small : found < 2 ^ 32) (o : Option ℕ) → IsLess found o → found < height o
  drops small None b = small
  drops small (Some c) b = b

  pub falls : found < 2 ^ 32 → Falls old new
  falls small =
      let lt : found < height (cost_at old a.from) = drops small (cost_at old a.from) better in
      let sums : sum_by height (slice_set old a.from (Some found)) + height (cost_at old a.from) ≡ sum_by height old + height (Some found) =
      sum_by-set height old a.from (Some found) None below in
      let one : potential new ≡ sum_by height (slice_set old a.from (Some found)) = ap potential is in
      omega (arith, lt, sums, one)

-- ---- where nothing is lowered

-- there is nothing at the head
pub no_head : (cap : ℕ) (costs : List (Option ℕ)) (a : Arc) → cost_at costs a.to ≡ None → IsRelaxed cap costs a
no_head cap costs a none rest is within = let bad : None ≡ Some rest = sym none ∙ is in absurd (cc)

-- the sum is above the cap
pub too_far : (cap : ℕ) (costs : List (Option ℕ)) (a : Arc) (rest : ℕ) → cost_at costs a.to ≡ Some rest → (a.cost + rest ≤ cap → ⊥) → IsRelaxed cap costs a
too_far cap costs a rest is far other is_other within =
    let one : rest ≡ other = some_is rest other (sym is ∙ is_other) in
    absurd (far (omega (arith, within, one)))

not_below : (o : Option ℕ) (sum : ℕ) → (IsLess sum o → ⊥) → (c : ℕ) × (o ≡ Some c) × (c ≤ sum)
not_below None sum no_lower = absurd (no_lower tt)
not_below (Some c) sum no_lower = (c, refl, omega (arith, no_lower))

-- the way by the edge is no better
pub no_better : (cap : ℕ) (costs : List (Option ℕ)) (a : Arc) (rest found : ℕ) → cost_at costs a.to ≡ Some rest → found ≡ a.cost + rest → (IsLess found (cost_at costs a.from) → ⊥) → IsRelaxed cap costs a
no_better cap costs a rest found is sum no_lower other is_other within =
    let one : rest ≡ other = some_is rest other (sym is ∙ is_other) in
    let has = not_below (cost_at costs a.from) found no_lower in
    (has.0, has.1, omega (arith, has.2, sum, one))
