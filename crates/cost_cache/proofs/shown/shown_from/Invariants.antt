use Rattle.std.proofs.Common.{◌≡◌, List, Some}
use Rattle.dom_base.specs.declared.query.Seed.{Seed}
use Rattle.dom_base.specs.declared.query.Label.{Label}
use Rattle.path_search.specs.Arcs.{label_at}
use Rattle.cost_cache.specs.Entries.{AreKept}
use Rattle.cost_cache.proofs.Walking.{IsUnderway, cost_at}
use Rattle.cost_cache.proofs.shown.shown_from.Given as goal

abbrev pub invariant-loop-place : goal.invariant-loop-place
invariant-loop-place g l =
    (seeds : List Seed) (a : Label) → AreKept (g.G.Links.rows l._links) l._ask.query seeds l.kept → label_at l.kept.labels l.from ≡ Some a →
    IsUnderway (g.G.Links.rows l._links) l._ask.query seeds l.kept l.fn.entry a l.place l.shown.items

abbrev pub decreases-loop-place : goal.decreases-loop-place
decreases-loop-place g l = cost_at l.kept.labels l.place
