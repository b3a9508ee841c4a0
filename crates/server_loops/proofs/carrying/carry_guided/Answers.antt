use Rattle.std.proofs.Common.{sym, eqb-true, ◌∙◌}
use Rattle.server_loops.proofs.Guided.{idly_guided}
use Rattle.server_loops.proofs.carrying.carry_guided.Goals as goal

pub returns-then-is_empty-clause-carries : goal.returns-then-is_empty-clause-carries
returns-then-is_empty-clause-carries g c = idly_guided c.args.links.now c.args.turns c.ended.result (g.D.Desk.desked c.args.desk.now) (eqb-true _ _ (sym c.is_empty.ensures ∙ c.if-is_empty.true))
