use Rattle.std.proofs.Common.{◌≡◌, ◌∙◌, ℕ, true, false, List, get_or, take, inl, inr, sym, subst}
use Rattle.std.specs.Prelude.{Contains}
use Rattle.std.specs.BTreeSet.{contains}
use Rattle.std.specs.Ordering.{nat_cmp}
use Rattle.std.proofs.lemmas.List.{take_more, take_all}
use Rattle.std.proofs.lemmas.List.Elements.{Contains-push_cases}
use Rattle.path_constraints.proofs.tables.has_risk.Goals as goal

pub loop-number-preserved : goal.loop-number-preserved
loop-number-preserved c = λ n has there.
    let numbers : List ℕ = c.args.numbers.now in
    let i = c.loop-number.number-index in
    let x : ℕ = get_or numbers i 0 in
    elim (Contains-push_cases (take i numbers) x n (subst (λ (xs : List ℕ). Contains xs n) (take_more numbers i 0 c.loop-number-test.true) has)) [
      | inl old ↦ c.loop-number.invariant n old there
      | inr same ↦
          let yes_x : contains nat_cmp c.args.risks.now x ≡ true = subst (λ (m : ℕ). contains nat_cmp c.args.risks.now m ≡ true) (sym same) there in
          let bad : true ≡ false = sym yes_x ∙ (sym c.contains.ensures ∙ c.if-contains.false) in cc
    ]

pub returns : goal.returns
returns c = (
  λ bad. absurd (let no_truth : false ≡ true = bad in cc),
  λ some. absurd (c.loop-number.invariant some.0 (subst (λ (xs : List ℕ). Contains xs some.0) (sym (take_all c.loop-number.number-index c.args.numbers.now c.loop-number-test.false)) some.2) some.1),
)
