use Rattle.border_costs.proofs.TableRows.{IsTableUpTo}
use Rattle.border_costs.proofs.table.rows_of.Given as goal

abbrev pub invariant-loop-place : goal.invariant-loop-place
invariant-loop-place g l = IsTableUpTo (g.G.Links.rows l.links) l.ask l.place l.rows.items
