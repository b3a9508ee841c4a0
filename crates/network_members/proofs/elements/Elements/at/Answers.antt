use Rattle.std.proofs.Common.{◌∙◌, List, Some, map, arith, sym, ap, subst}
use Rattle.pce_common.specs.plant_model.Types.{As}
use Rattle.pce_element.specs.Seen.{Seen}
use Rattle.network_members.specs.Elements.{at_domain, own_of, IsFirstAt, IsNowhere}
use Rattle.network_members.proofs.DomainLemmas.{first_within, at_first, at_nowhere}
use Rattle.network_members.proofs.elements.Elements.at.Goals as goal

pub index-requires : goal.index-requires
index-requires g c =
    let items = c.self.inside.items in
    let first : IsFirstAt c.args.at c.in-Some.i (map own_of items.items) = subst (λ (ds : List As). IsFirstAt c.args.at c.in-Some.i ds) (c.deref.ensures.value ∙ sym c.self.invariant) c.in-Some.ensures in
    omega (arith, items.ok.0, first_within c.args.at c.in-Some.i items.items first)

pub returns-in-Some : goal.returns-in-Some
returns-in-Some g c =
    let items = c.self.inside.items.items in
    let first : IsFirstAt c.args.at c.in-Some.i (map own_of items) = subst (λ (ds : List As). IsFirstAt c.args.at c.in-Some.i ds) (c.deref.ensures.value ∙ sym c.self.invariant) c.in-Some.ensures in
    ap (λ (e : Seen _ _). Some e) c.index.ensures ∙ sym (at_first c.args.at c.in-Some.i items c.index.result.now first) ∙ ap (at_domain c.args.at) c.self.view_is

pub returns-in-None : goal.returns-in-None
returns-in-None g c =
    let items = c.self.inside.items.items in
    sym (at_nowhere c.args.at items (subst (λ (ds : List As). IsNowhere c.args.at ds) (c.deref.ensures.value ∙ sym c.self.invariant) c.in-None.ensures)) ∙ ap (at_domain c.args.at) c.self.view_is
