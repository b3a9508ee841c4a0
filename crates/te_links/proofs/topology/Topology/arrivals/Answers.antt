use Rattle.std.proofs.Common.{◌≡◌, ◌+◌, ◌<◌, ◌≤◌, ◌∙◌, ℕ, List, length, get_or, sym, ap, subst}
use Rattle.std.specs.Prelude.{slice_range}
use Rattle.te_links.specs.declared.topology.Topology.TheInside.{Inside}
use Rattle.te_links.specs.Rows.{Rows}
use Rattle.te_links.specs.Index.{IsLinksInto}
use Rattle.te_links.specs.Arrivals.{AreArcs}
use Rattle.te_links.specs.Grouped.{part_at}
use Rattle.te_links.specs.Fields.{HoldsRules}
use Rattle.te_links.proofs.Arriving.{arcs_part, into_within}
use Rattle.te_links.proofs.topology.Topology.arrivals.Goals as goal

-- the arcs of the links into a node
arcs_at : (t : Inside) (node : ℕ) → HoldsRules t → node < length t.nodes.items →
    AreArcs t.nodes.items t.links.items (part_at t.index.into.first.items t.index.into.places.items node) (part_at t.index.into.first.items t.index.arcs.items node)
arcs_at t node holds inside =
    let first = t.index.into.first.items in
    arcs_part t.nodes.items t.links.items t.index.into.places.items t.index.arcs.items (get_or first node 0) (get_or first (node + 1) 0)
    (holds.index.into.bounds.within node inside) holds.index.arcs

pub bounds-start-requires : goal.bounds-start-requires
bounds-start-requires c = c.self.invariant.index.into.bounds.each c.args.node (subst (λ (g : Rows). c.args.node < length g.nodes) (sym c.self.view_is) c.requires)

pub part-arcs-requires-clause-begins : goal.part-arcs-requires-clause-begins
part-arcs-requires-clause-begins c =
    let inside = subst (λ (g : Rows). c.args.node < length g.nodes) (sym c.self.view_is) c.requires in
    rw (c.bounds-start.ensures.begins, c.bounds-start.ensures.ends) (c.self.invariant.index.into.bounds.up c.args.node inside)

pub part-arcs-requires-clause-ends : goal.part-arcs-requires-clause-ends
part-arcs-requires-clause-ends c =
    let inside = subst (λ (g : Rows). c.args.node < length g.nodes) (sym c.self.view_is) c.requires in
    rw (c.bounds-start.ensures.ends, c.deref.ensures.value, c.self.invariant.index.arcs.each) (c.self.invariant.index.into.bounds.within c.args.node inside)

pub at-places-requires-clause-bounds : goal.at-places-requires-clause-bounds
at-places-requires-clause-bounds c = rw c.deref-2.ensures.value c.self.invariant.index.into.bounds

pub at-places-requires-clause-node : goal.at-places-requires-clause-node
at-places-requires-clause-node c = rw c.deref-2.ensures.value (subst (λ (g : Rows). c.args.node < length g.nodes) (sym c.self.view_is) c.requires)

pub of-requires-clause-each : goal.of-requires-clause-each
of-requires-clause-each c =
    let inside = subst (λ (g : Rows). c.args.node < length g.nodes) (sym c.self.view_is) c.requires in
    let arcs = rw (c.bounds-start.ensures.begins, c.bounds-start.ensures.ends, c.deref.ensures.value) at c.part-arcs.ensures in
    rw (arcs, c.at-places.ensures) (arcs_at c.self.inside c.args.node c.self.invariant inside).each

pub of-requires-clause-within : goal.of-requires-clause-within
of-requires-clause-within c =
    let t = c.self.inside in
    let inside = subst (λ (g : Rows). c.args.node < length g.nodes) (sym c.self.view_is) c.requires in
    rw (c.deref-3.ensures.value, c.at-places.ensures) (into_within t.nodes.items t.links.items c.args.node _ (c.self.invariant.index.into.at_node c.args.node inside))

pub returns : goal.returns
returns c =
    let t = c.self.inside in
    let inside = subst (λ (g : Rows). c.args.node < length g.nodes) (sym c.self.view_is) c.requires in
    let arcs = rw (c.bounds-start.ensures.begins, c.bounds-start.ensures.ends, c.deref.ensures.value) at c.part-arcs.ensures in
    rw (← c.self.view_is) (record {
      links = c.of.ensures.links ∙ c.deref-3.ensures.value;
      places = subst (IsLinksInto t.nodes.items t.links.items c.args.node) (sym (c.of.ensures.places ∙ c.at-places.ensures)) (c.self.invariant.index.into.at_node c.args.node inside);
      arcs = rw (c.of.ensures.places ∙ c.at-places.ensures, c.of.ensures.arcs ∙ arcs) (arcs_at t c.args.node c.self.invariant inside);
    })
