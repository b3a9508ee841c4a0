use Rattle.std.proofs.Common.{◌≡◌, ◌*◌, ◌≤◌, List, map, take}
use Rattle.std.specs.Prelude.{All, Contains}
use Rattle.dom_base.specs.declared.link.Link.{Link}
use Rattle.te_links.specs.declared.limits.TheConstants.{METRIC_MAX}
use Rattle.walk_laws.specs.Walks.{cost}
use Rattle.diverse_pairs.proofs.costs.sum_of.Given as goal

abbrev pub invariant-loop-far : goal.invariant-loop-far
invariant-loop-far l = record {
  bound : l.sum ≤ l.far-index * METRIC_MAX;
  cost : (ls : List Link) → l.fars ≡ map (λ k. k.far) ls → All (Contains l.topology.links) ls → l.sum ≡ cost l.query (take l.far-index ls);
}
