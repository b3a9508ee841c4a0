-- The links into a node as they are read, all at once.
use Rattle.std.specs.Prelude.{◌≡◌, ◌<◌, ℕ, List, length, Some, slice_get, slice_index_or}
use Rattle.dom_base.specs.declared.addr.Addr.{Addr}
use Rattle.dom_base.specs.declared.link.Link.{Link}
use Rattle.te_links.specs.declared.arrivals.Arc.{Arc}
use Rattle.te_links.specs.Rows.{Rows}
use Rattle.te_links.specs.Index.{IsLinksInto}

-- the arc of the link at place p: where the link begins, and its metrics
pub record IsArcOf (nodes : List Addr) (links : List Link) (arc : Arc) (p : ℕ) : Type 0 where
  pub link : Link
  pub at_link : slice_get links p ≡ Some link
  pub tail : slice_get nodes arc.tail ≡ Some link.from
  pub igp : arc.igp ≡ link.igp
  pub te : arc.te ≡ link.te

-- for each of the links at these places its arc
pub record AreArcs (nodes : List Addr) (links : List Link) (places : List ℕ) (arcs : List Arc) : Type 0 where
  pub each : length arcs ≡ length places
  pub at_place : (k p : ℕ) (a : Arc) → k < length places → IsArcOf nodes links (slice_index_or arcs k a) (slice_index_or places k p)

-- inner links, the places of those that are read, and their arcs
pub record Arrived : Type 0 where
  pub links : List Link
  pub places : List ℕ
  pub arcs : List Arc

-- exactly the links into the node at place i
pub record AreArrivals (g : Rows) (i : ℕ) (a : Arrived) : Type 0 where
  pub links : a.links ≡ g.links
  pub places : IsLinksInto g.nodes g.links i a.places
  pub arcs : AreArcs g.nodes g.links a.places a.arcs
