use Rattle.std.proofs.Common.{◌∙◌, List, sym, ap, subst, arith}
use Rattle.std.proofs.lemmas.Option.{slice_get_within}
use Rattle.dom_base.specs.declared.link.Link.{Link}
use Rattle.te_links.specs.Rows.{Rows}
use Rattle.te_links.specs.Index.{IsLinkAt}
use Rattle.te_links.proofs.topology.Topology.find_link.Goals as goal

pub overflow_cast-result : goal.overflow_cast-result
overflow_cast-result c =
    let found = c.in-Some.ensures in
    omega (arith, slice_get_within c.deref.result.now c.in-Some.place found.link found.at_link, c.self.invariant.rules.few_links, c.deref.ensures.len)

pub returns-in_default : goal.returns-in_default
returns-in_default c = λ i at.
    c.in_default.ensures i (subst (λ (ls : List Link). IsLinkAt ls c.args.far i) (ap (λ (g : Rows). g.links) (sym c.self.view_is) ∙ sym c.deref.ensures.value) at)
