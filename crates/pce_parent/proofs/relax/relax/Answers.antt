use Rattle.std.proofs.Common.{◌≡◌, ℕ, true, arith, refl, sym, ◌∙◌, subst}
use Rattle.dom_base.specs.Costs.{IsLess}
use Rattle.pce_parent.specs.Costs.{cost_at}
use Rattle.pce_parent.proofs.Relaxing.{lowered, no_better}
use Rattle.pce_parent.proofs.relax.relax.Goals as goal

pub returns-then-not-is_less-clause-passes : goal.returns-then-not-is_less-clause-passes
returns-then-not-is_less-clause-passes c =
    let a = c.args.arc.now in
    let costs = c.args.costs.now in
    let found : ℕ = c.in-Some-sum_within.found in (
      refl,
      no_better c.args.job.now.query.cap costs a c.in-Some.rest found (sym c.cost_of.ensures ∙ c.in-Some.is) c.in-Some-sum_within.ensures.1
          (λ below. let bad : c.is_less.result ≡ true = c.is_less.ensures.1 (subst (IsLess found) (sym c.cost_of-2.ensures) below) in cc),
    )

pub returns-clause-reached : goal.returns-clause-reached
returns-clause-reached c =
    let a = c.args.arc.now in
    let costs = c.args.costs.now in
    let found : ℕ = c.in-Some-sum_within.found in
    let better : IsLess found (cost_at costs a.from) = subst (IsLess found) c.cost_of-2.ensures (c.is_less.ensures.0 c.if-not-is_less.false) in
    lowered c.args.job.now c.args._spots.now a costs _ c.in-Some.rest found c.requires.step c.requires.reached (sym c.cost_of.ensures ∙ c.in-Some.is) c.in-Some-sum_within.ensures.1
    (omega (arith, c.in-Some-sum_within.ensures.0, c.in-Some-sum_within.ensures.1)) better refl
