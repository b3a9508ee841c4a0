use Rattle.std.proofs.Common.{◌≡◌, sym, ap, subst}
use Rattle.std.specs.Arc.{arc_value}
use Rattle.border_costs.specs.declared.answer.Answer.{Answer}
use Rattle.border_costs.specs.Solutions.{AreLabelledRows, Solution}
use Rattle.border_costs.proofs.solved.solve_labelled.Goals as goal

pub returns-clause-rows : goal.returns-clause-rows
returns-clause-rows c =
    let topology = arc_value c.args.job.now.topology in
    let ask = c.args.job.now.ask in
    let told = c.in_ok-rows.field-0 in
    let here : AreLabelledRows topology ask told = rw (c.new-links.ensures.topology, c.deref.ensures) at c.in_ok-rows.ensures.rows in
    let rows : c.in_ok-of.field-0.rows ≡ told.rows = ap (λ (s : Solution). s.rows) c.in_ok-of.ensures.solved in
    subst (λ (r : Answer). AreLabelledRows topology ask (record { rows = r; certificate = told.certificate })) (sym rows) here
