use Rattle.std.proofs.Common.{◌≡◌, ◌∙◌, Option, Some, List, map, arith, sym, ap, subst}
use Rattle.std.specs.Prelude.{IfSome}
use Rattle.pce_element.specs.Seen.{Seen}
use Rattle.network_members.specs.Becoming.{owed_by}
use Rattle.network_members.specs.Elements.{at_domain, own_of, IsFirstAt}
use Rattle.network_members.proofs.DomainLemmas.{first_within, at_first}
use Rattle.network_members.proofs.elements.Elements.owed.Goals as goal

pub index-requires : goal.index-requires
index-requires g c =
    let items = c.self.inside.items in
    omega (arith, items.ok.0, first_within c.args.at c.place-i.result items.items (subst (λ (es : List (Seen _ _)). IsFirstAt c.args.at c.place-i.result (map own_of es)) (sym c.self.view_is) c.place-i.ensures))

pub returns : goal.returns
returns g c =
    let items = c.self.inside.items.items in
    let first : IsFirstAt c.args.at c.place-i.result (map own_of items) = subst (λ (es : List (Seen _ _)). IsFirstAt c.args.at c.place-i.result (map own_of es)) (sym c.self.view_is) c.place-i.ensures in
    subst (λ (o : Option (Seen _ _)). IfSome o (λ e. c.owed.result ≡ owed_by c.args.peer e))
    (ap (λ (e : Seen _ _). Some e) c.index.ensures ∙ sym (at_first c.args.at c.place-i.result items c.index.result.now first) ∙ ap (at_domain c.args.at) c.self.view_is) c.owed.ensures
