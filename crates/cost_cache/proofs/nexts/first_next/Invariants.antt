use Rattle.std.proofs.Common.{◌≡◌, ℕ, ◌<◌, slice_index_or}
use Rattle.path_search.specs.Segments.{IsLoose}
use Rattle.cost_cache.proofs.nexts.first_next.Given as goal

abbrev pub invariant-loop-index : goal.invariant-loop-index
invariant-loop-index g l = record {
  loose : (j : ℕ) → j < l.index-index → IsLoose (g.G.Links.rows l.initial.links) l.prepared l.labels l.node l.label (slice_index_or l.leaving j 0);
  same : g.G.Links.rows l.links ≡ g.G.Links.rows l.initial.links;
}
