use Rattle.std.proofs.Common.{◌∙◌, List, map, sym, subst}
use Rattle.pce_common.specs.plant_model.Types.{As}
use Rattle.pce_element.specs.Seen.{Seen}
use Rattle.network_members.specs.Elements.{own_of, IsFirstAt, IsNowhere}
use Rattle.network_members.specs.Becoming.{HasElement}
use Rattle.network_members.proofs.BecomingLemmas.{none_there}
use Rattle.network_members.proofs.elements.Elements.place.Goals as goal

pub unreachable-requires : goal.unreachable-requires
unreachable-requires g c =
    none_there c.args.at c.self.inside.items.items (subst (HasElement c.args.at) (sym c.self.view_is) c.requires)
    (subst (λ (ds : List As). IsNowhere c.args.at ds) (c.deref.ensures.value ∙ sym c.self.invariant) c.in-None.ensures)

pub returns : goal.returns
returns g c =
    subst (λ (es : List (Seen _ _)). IsFirstAt c.args.at c.in-Some.i (map own_of es)) c.self.view_is
    (subst (λ (ds : List As). IsFirstAt c.args.at c.in-Some.i ds) (c.deref.ensures.value ∙ sym c.self.invariant) c.in-Some.ensures)
