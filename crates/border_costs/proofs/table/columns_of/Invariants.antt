use Rattle.std.proofs.Common.{◌≡◌, [], ◌∷◌, map, take}
use Rattle.std.specs.Prelude.{All}
use Rattle.path_search.specs.Search.{AreLabels}
use Rattle.border_costs.specs.declared.table.Column.{Column}
use Rattle.border_costs.proofs.table.columns_of.Given as goal

abbrev pub invariant-loop-way : goal.invariant-loop-way
invariant-loop-way g l = record {
  same : g.G.Links.rows l.links ≡ g.G.Links.rows l.initial.links;
  ways : map (λ (c : Column). c.way) l.columns.items ≡ take l.way-index l.way-items;
  labels : All (λ (c : Column). AreLabels (g.G.Links.rows l.links) l.ask.query (c.way.seed ∷ []) c.labels) l.columns.items;
}
