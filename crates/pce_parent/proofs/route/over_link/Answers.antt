use Rattle.std.proofs.Common.{◌≡◌, ◌+◌, ◌∷◌, ◌++◌, List, [], ℕ, Some, arith, sym, ◌∙◌, ap, subst}
use Rattle.std.proofs.lemmas.List.Elements.{All-contains}
use Rattle.pce_common.specs.plant_model.Types.{Addr, Hop}
use Rattle.pcep_subobjects.specs.Hops.{strict_hop}
use Rattle.pce_common.specs.plant_model.BorderGraph.{Vertex, Enter, Leave}
use Rattle.pce_parent.specs.declared.arcs.Arc.{Arc}
use Rattle.pce_parent.specs.Places.{IsAt}
use Rattle.pce_parent.specs.Arcs.{IsSomeLinkArc}
use Rattle.pce_parent.specs.Costs.{cost_at}
use Rattle.pce_parent.specs.Tight.{IsChosen}
use Rattle.pce_parent.proofs.Going.{some_link_tight, link_sum, goes_by_link, goes_between}
use Rattle.pce_parent.proofs.route.over_link.Goals as goal

pub unreachable-requires : goal.unreachable-requires
unreachable-requires c =
    let some = some_link_tight c.args.job.now c.args._spots.now c.args._rows.now c.args.links.now c.args.costs.now c.requires.least c.args.at.now c.requires.stands c.requires.more in
    c.in_default.ensures some.0 some.1 some.2

pub returns-clause-stands : goal.returns-clause-stands
returns-clause-stands c =
    let j = c.args.job.now in
    let spots = c.args._spots.now in
    let links = c.args.links.now in
    let costs = c.args.costs.now in
    let arc : Arc = c.in-Some.arc in
    let rest : ℕ = c.in-Some-cost_of.rest in
    let chosen : IsChosen links costs c.args.at.now.place c.args.at.now.rest (Some arc) = c.in-Some.ensures in
    let some : IsSomeLinkArc j spots arc = All-contains (IsSomeLinkArc j spots) links arc c.requires.least.link_arcs.each chosen.0 in
    let at_head : cost_at costs arc.to ≡ Some rest = sym c.cost_of.ensures ∙ c.in-Some-cost_of.is in
    let sum : c.args.at.now.rest ≡ arc.cost + rest =
    link_sum j spots c.args._rows.now links costs c.requires.least c.args.at.now c.requires.stands c.requires.more arc chosen some rest at_head in
    record {
      stands = record { own = some.link.to_as; node = some.link.link.to; is_at = some.is_arc.head; is_cost = at_head };
      less = omega (arith, sum, some.is_arc.heavy);
    }

pub returns-clause-goes : goal.returns-clause-goes
returns-clause-goes c =
    let j = c.args.job.now in
    let spots = c.args._spots.now in
    let links = c.args.links.now in
    let costs = c.args.costs.now in
    let arc : Arc = c.in-Some.arc in
    let rest : ℕ = c.in-Some-cost_of.rest in
    let here = c.args.at.now in
    let chosen : IsChosen links costs here.place here.rest (Some arc) = c.in-Some.ensures in
    let some : IsSomeLinkArc j spots arc = All-contains (IsSomeLinkArc j spots) links arc c.requires.least.link_arcs.each chosen.0 in
    let at_head : cost_at costs arc.to ≡ Some rest = sym c.cost_of.ensures ∙ c.in-Some-cost_of.is in
    let v : Vertex = Leave some.link.from_as some.link.link.from in
    let u : Vertex = Enter some.link.to_as some.link.link.to in
    let more : List Hop = strict_hop some.link.link.far ∷ [] in
    let same : c.strict_hop.result ≡ strict_hop some.link.link.far = c.strict_hop.ensures ∙ ap (λ (n : Addr). strict_hop n) some.is_arc.same_choice in
    let tail : IsAt spots v here.place = subst (λ (k : ℕ). IsAt spots v k) chosen.1.here some.is_arc.tail in
    record {
      more = more;
      appended = c.in_ok-push.ensures.ok ∙ ap (λ (h : Hop). c.args.hops.now ++ h ∷ []) same;
      drops = omega (arith, link_sum j spots c.args._rows.now links costs c.requires.least here c.requires.stands c.requires.more arc chosen some rest at_head);
      goes = λ v' u' at_v at_u.
          goes_between j spots v u v' u' here.place arc.to here.rest rest more tail some.is_arc.head at_v at_u
          (goes_by_link j spots c.args._rows.now links costs c.requires.least here c.requires.stands c.requires.more arc chosen some rest at_head);
    }
