use Rattle.std.proofs.Common.{◌≡◌, take}
use Rattle.border_costs.specs.Solutions.{AreBest}
use Rattle.border_costs.proofs.best.best_rows.Given as goal

abbrev pub invariant-loop-entry : goal.invariant-loop-entry
invariant-loop-entry g l = record {
  same : g.G.Links.rows l.links ≡ g.G.Links.rows l.initial.links;
  best : AreBest (g.G.Links.rows l.links) l.ask l.seeds (take l.entry-index l.ask.entries) l.rows.items;
}
