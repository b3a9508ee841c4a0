use Rattle.std.proofs.Common.{◌≡◌, ◌<◌, List, length, sym, subst}
use Rattle.dom_base.specs.declared.addr.Addr.{Addr}
use Rattle.te_links.specs.Rows.{Rows}
use Rattle.te_links.specs.Index.{IsLinksFrom}
use Rattle.te_links.proofs.topology.Topology.links_from.Goals as goal

pub at-requires-clause-bounds : goal.at-requires-clause-bounds
at-requires-clause-bounds c = rw c.deref.ensures.value c.self.invariant.index.from.bounds

pub at-requires-clause-node : goal.at-requires-clause-node
at-requires-clause-node c = rw c.deref.ensures.value (subst (λ (g : Rows). c.args.node < length g.nodes) (sym c.self.view_is) c.requires)

pub returns-clause-places : goal.returns-clause-places
returns-clause-places c =
    let t = c.self.inside in
    let inside : c.args.node < length t.nodes.items = subst (λ (g : Rows). c.args.node < length g.nodes) (sym c.self.view_is) c.requires in
    rw (← c.self.view_is)
    (subst (IsLinksFrom t.nodes.items t.links.items c.args.node) (sym c.at.ensures) (c.self.invariant.index.from.at_node c.args.node inside))
