-- Arcs that run along links, one way or the other.
use Rattle.std.specs.Prelude.{◌≡◌, ◌⊎◌, ◌≤◌, ℕ, List, length, Some, slice_get}
use Rattle.std.specs.declared.option.Option.{Option}
use Rattle.dom_base.specs.declared.link.Link.{Link}
use Rattle.te_links.specs.Rows.{Rows}
use Rattle.diverse_pairs.specs.declared.arcs.Arc.{Arc}
use Rattle.diverse_pairs.specs.Arcs.{IsArc}

-- from where the link at a place begins to where it ends, or back
pub record IsAlong (g : Rows) (i : ℕ) (a : Arc) : Type 0 where
  pub link : Link
  pub at_link : slice_get g.links i ≡ Some link
  pub ends : ((slice_get g.nodes a.tail ≡ Some link.from) × (slice_get g.nodes a.head ≡ Some link.to)) ⊎ ((slice_get g.nodes a.tail ≡ Some link.to) × (slice_get g.nodes a.head ≡ Some link.from))
  pub heavy : 1 ≤ a.weight

-- each arc runs along the link at its place
pub record AreAlong (g : Rows) (arcs : List (Option Arc)) : Type 0 where
  pub long : length arcs ≡ length g.links
  pub each : (i : ℕ) (a : Arc) → IsArc arcs i a → IsAlong g i a
