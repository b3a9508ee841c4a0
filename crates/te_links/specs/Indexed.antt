-- What a topology keeps beside its rows: where links end, and the links at each node.
use Rattle.std.specs.Prelude.{◌<◌, ℕ, List, length}
use Rattle.dom_base.specs.declared.addr.Addr.{Addr}
use Rattle.dom_base.specs.declared.link.Link.{Link}
use Rattle.te_links.specs.declared.groups.Groups.{Groups}
use Rattle.te_links.specs.declared.index.Index.{Index}
use Rattle.te_links.specs.Index.{IsLinksInto, IsLinksFrom, AreHeads}
use Rattle.te_links.specs.Arrivals.{AreArcs}
use Rattle.te_links.specs.Grouped.{AreBounds, part_at}

-- for each node the links that end there
pub record AreInto (nodes : List Addr) (links : List Link) (g : Groups) : Type 0 where
  pub bounds : AreBounds (length nodes) (length g.places.items) g.first.items
  pub at_node : (i : ℕ) → i < length nodes → IsLinksInto nodes links i (part_at g.first.items g.places.items i)

-- for each node the links that begin there
pub record AreFrom (nodes : List Addr) (links : List Link) (g : Groups) : Type 0 where
  pub bounds : AreBounds (length nodes) (length g.places.items) g.first.items
  pub at_node : (i : ℕ) → i < length nodes → IsLinksFrom nodes links i (part_at g.first.items g.places.items i)

pub record IsIndex (nodes : List Addr) (links : List Link) (x : Index) : Type 0 where
  pub heads : AreHeads nodes links x.heads.items
  pub into : AreInto nodes links x.into
  pub arcs : AreArcs nodes links x.into.places.items x.arcs.items
  pub from : AreFrom nodes links x.from
