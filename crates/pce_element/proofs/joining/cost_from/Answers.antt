use Rattle.std.proofs.Common.{inl, inr, arith, refl, sym, take}
use Rattle.std.proofs.lemmas.List.{take_all}
use Rattle.dom_base.proofs.Ranks.{Decides-rank}
use Rattle.border_costs.specs.Asks.{beyond}
use Rattle.border_costs.proofs.Downs.{step_taken, step_left}
use Rattle.pce_common.specs.plant_model.Branches.{downs}
use Rattle.pce_element.proofs.JoinLemmas.{beyond_of, one_more}
use Rattle.pce_element.proofs.joining.cost_from.Goals as goal
use Rattle.pce_element.proofs.joining.cost_from.Goals.{then-eq+then-is_less, else-eq, else-eq-via-then-eq+else-is_less, else-eq-via-else-eq}

pub loop-branch-preserved : goal.loop-branch-preserved
loop-branch-preserved c =
    let down = c.args.down.now in
    let i = c.loop-branch.branch-index in
    let branch = c.branch-item.result in
    let rows = beyond (downs (take i down)) in
    let more = one_more down i branch (omega arith) c.branch-item.is in
    let here = Decides-rank branch.entry c.args.node in
    elim c.if-eq.branch [
      | then-eq+then-is_less w ↦ rw (w.least-is, more)
          (step_taken rows (beyond_of branch) c.args.node c.loop-branch.least c.loop-branch.invariant (here.0 (sym w.if-eq.ensures)) (w.if-is_less.ensures.0 refl))
      | else-eq w ↦ rw (w.least-is, more) (step_left rows (beyond_of branch) c.args.node c.loop-branch.least c.loop-branch.invariant
          (elim w.else-eq.branch [
            | else-eq-via-then-eq+else-is_less v ↦ inr (λ below. let told = v.if-is_less.ensures.1 below in cc)
            | else-eq-via-else-eq v ↦ inl (λ is. let yes = here.1 is in let no_ = v.if-eq.ensures in cc)
          ]))
    ]

pub returns : goal.returns
returns c = rw (take_all c.loop-branch.branch-index c.args.down.now c.loop-branch-test.false) at c.loop-branch.invariant
