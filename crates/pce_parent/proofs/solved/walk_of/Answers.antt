use Rattle.std.proofs.Common.{◌≡◌, List, Some, None, sym, ◌∙◌, ap, subst}
use Rattle.pce_common.specs.plant_model.BorderGraph.{Enter}
use Rattle.pce_parent.specs.declared.spot.Spot.{Spot}
use Rattle.pce_parent.specs.declared.route.Stand.{Stand}
use Rattle.pce_parent.specs.Places.{place_of, spot_of, IsAt}
use Rattle.pce_parent.specs.Routes.{IsRoute}
use Rattle.pce_parent.proofs.PlaceLaws.{has_place}
use Rattle.pce_parent.proofs.Walking.{no_walk, some_walk}
use Rattle.pce_parent.proofs.solved.walk_of.Goals as goal

pub unreachable-requires : goal.unreachable-requires
unreachable-requires c =
    let spots = c.args.spots.now.keys in
    let has = has_place spots (spot_of (Enter c.args.job.now.start c.args.job.now.source)) c.requires.vertices.start in
    let bad : None ≡ Some has.0 = sym c.in_default.is ∙ c.place_at.ensures.place ∙ ap (place_of spots) c.entering.ensures ∙ has.1 in
    cc

pub returns-in_default-cost_of : goal.returns-in_default-cost_of
returns-in_default-cost_of c =
    let spots = c.args.spots.now.keys in
    let stands : IsAt spots (Enter c.args.job.now.start c.args.job.now.source) c.in-Some.place = sym (ap (place_of spots) c.entering.ensures) ∙ sym c.place_at.ensures.place ∙ c.in-Some.is in
    no_walk c.args.job.now spots c.args.rows.now c.args.links.now c.args.costs.now c.requires c.in-Some.place stands (sym c.cost_of.ensures ∙ c.in_default-cost_of.is)

pub chosen_hops-requires-clause-stands : goal.chosen_hops-requires-clause-stands
chosen_hops-requires-clause-stands c =
    let spots = c.args.spots.now.keys in
    let stands : IsAt spots (Enter c.args.job.now.start c.args.job.now.source) c.in-Some.place = sym (ap (place_of spots) c.entering.ensures) ∙ sym c.place_at.ensures.place ∙ c.in-Some.is in
    record {
      own = c.args.job.now.start;
      node = c.args.job.now.source;
      is_at = subst (λ (ss : List Spot). IsAt ss (Enter c.args.job.now.start c.args.job.now.source) c.in-Some.place) (sym c.as_slice.ensures.keys) stands;
      is_cost = sym c.cost_of.ensures ∙ c.in-Some-cost_of.is;
    }

pub returns : goal.returns
returns c =
    let j = c.args.job.now in
    let spots = c.args.spots.now.keys in
    let stands : IsAt spots (Enter j.start j.source) c.in-Some.place = sym (ap (place_of spots) c.entering.ensures) ∙ sym c.place_at.ensures.place ∙ c.in-Some.is in
    let start : Stand = record { place = c.in-Some.place; rest = c.in-Some-cost_of.cost } in
    some_walk j spots c.args.rows.now c.args.links.now c.args.costs.now c.requires start stands (sym c.cost_of.ensures ∙ c.in-Some-cost_of.is)
    c.in_ok-hops.hops (subst (λ (ss : List Spot). IsRoute j ss start c.in_ok-hops.hops) c.as_slice.ensures.keys c.in_ok-hops.ensures)
