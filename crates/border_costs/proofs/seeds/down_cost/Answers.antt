use Rattle.std.proofs.Common.{inl, inr, arith, refl, sym, take}
use Rattle.std.proofs.lemmas.List.{take_all}
use Rattle.dom_base.proofs.Ranks.{Decides-rank}
use Rattle.border_costs.specs.Asks.{beyond}
use Rattle.border_costs.proofs.Downs.{one_more, row_of, step_taken, step_left}
use Rattle.border_costs.proofs.seeds.down_cost.Goals as goal
use Rattle.border_costs.proofs.seeds.down_cost.Goals.{then-eq+then-is_less, else-eq, else-eq-via-then-eq+else-is_less, else-eq-via-else-eq}

pub loop-row-preserved : goal.loop-row-preserved
loop-row-preserved c =
    let down = c.args.down.now in
    let i = c.loop-row.row-index in
    let row = c.row-item.result in
    let rows = beyond (take i down) in
    let more = one_more down i row (omega arith) c.row-item.is in
    let here = Decides-rank row.node c.args.node in
    elim c.if-eq.branch [
      | then-eq+then-is_less w ↦ rw (w.least-is, more)
          (step_taken rows (row_of row) c.args.node c.loop-row.least c.loop-row.invariant (here.0 (sym w.if-eq.ensures)) (w.if-is_less.ensures.0 refl))
      | else-eq w ↦ rw (w.least-is, more) (step_left rows (row_of row) c.args.node c.loop-row.least c.loop-row.invariant
          (elim w.else-eq.branch [
            | else-eq-via-then-eq+else-is_less v ↦ inr (λ below. let told = v.if-is_less.ensures.1 below in cc)
            | else-eq-via-else-eq v ↦ inl (λ is. let yes = here.1 is in let no_ = v.if-eq.ensures in cc)
          ]))
    ]

pub returns : goal.returns
returns c = rw (take_all c.loop-row.row-index c.args.down.now c.loop-row-test.false) at c.loop-row.invariant
