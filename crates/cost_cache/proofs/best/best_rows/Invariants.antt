use Rattle.std.proofs.Common.{List, take}
use Rattle.dom_base.specs.declared.query.Seed.{Seed}
use Rattle.border_costs.specs.Asks.{AreSeeds}
use Rattle.border_costs.specs.Solutions.{AreBest}
use Rattle.cost_cache.specs.Entries.{AreKept}
use Rattle.cost_cache.proofs.best.best_rows.Given as goal

abbrev pub invariant-loop-entry : goal.invariant-loop-entry
invariant-loop-entry g l =
    (seeds : List Seed) → AreSeeds (g.G.Links.rows l.links) l.ask seeds → AreKept (g.G.Links.rows l.links) l.ask.query seeds l.kept →
    AreBest (g.G.Links.rows l.links) l.ask seeds (take l.entry-index l.ask.entries) l.rows.items
