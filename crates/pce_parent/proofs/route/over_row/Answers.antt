use Rattle.std.proofs.Common.{◌≡◌, ◌++◌, List, length, ℕ, Some, slice_get, get_or, arith, sym, ◌∙◌, ap, subst}
use Rattle.std.proofs.lemmas.List.Elements.{All-contains}
use Rattle.std.proofs.lemmas.Option.{slice_get_within, get_or_from_slice_get}
use Rattle.pce_common.specs.plant_model.Types.{Hop}
use Rattle.pce_common.specs.plant_model.declared.upper.ChildRow.{ChildRow}
use Rattle.pce_common.specs.plant_model.BorderGraph.{Vertex, Enter, Leave}
use Rattle.pce_parent.specs.declared.arcs.Arc.{Arc}
use Rattle.pce_parent.specs.Places.{IsAt}
use Rattle.pce_parent.specs.Arcs.{IsSomeRowArc}
use Rattle.pce_parent.specs.Costs.{cost_at}
use Rattle.pce_parent.specs.Tight.{IsChosen}
use Rattle.pce_parent.proofs.Going.{some_row_tight, row_sum, goes_by_row, goes_between}
use Rattle.pce_parent.proofs.route.over_row.Goals as goal

pub unreachable-requires : goal.unreachable-requires
unreachable-requires c =
    let some = some_row_tight c.args.job.now c.args._spots.now c.args.rows.now c.args._links.now c.args.costs.now c.requires.least c.args.at.now c.requires.stands in
    c.in_default.ensures some.0 some.1 some.2

pub bounds-as_slice-arc : goal.bounds-as_slice-arc
bounds-as_slice-arc c =
    let j = c.args.job.now in
    let arc : Arc = c.in-Some.arc in
    let chosen : IsChosen c.args.rows.now c.args.costs.now c.args.at.now.place c.args.at.now.rest (Some arc) = c.in-Some.ensures in
    let some : IsSomeRowArc j c.args._spots.now arc = All-contains (IsSomeRowArc j c.args._spots.now) c.args.rows.now arc c.requires.least.row_arcs.each chosen.0 in
    omega (arith, slice_get_within j.rows arc.index some.row some.at_index, ap length c.as_slice.ensures)

pub returns-clause-stands : goal.returns-clause-stands
returns-clause-stands c =
    let j = c.args.job.now in
    let arc : Arc = c.in-Some.arc in
    let chosen : IsChosen c.args.rows.now c.args.costs.now c.args.at.now.place c.args.at.now.rest (Some arc) = c.in-Some.ensures in
    let some : IsSomeRowArc j c.args._spots.now arc = All-contains (IsSomeRowArc j c.args._spots.now) c.args.rows.now arc c.requires.least.row_arcs.each chosen.0 in
    record { own = some.row.at; node = some.row.target; is_at = some.is_arc.head; is_cost = sym c.cost_of.ensures ∙ c.in-Some-cost_of.is }

pub returns-clause-goes : goal.returns-clause-goes
returns-clause-goes c =
    let j = c.args.job.now in
    let spots = c.args._spots.now in
    let rows = c.args.rows.now in
    let costs = c.args.costs.now in
    let arc : Arc = c.in-Some.arc in
    let rest : ℕ = c.in-Some-cost_of.rest in
    let here = c.args.at.now in
    let chosen : IsChosen rows costs here.place here.rest (Some arc) = c.in-Some.ensures in
    let some : IsSomeRowArc j spots arc = All-contains (IsSomeRowArc j spots) rows arc c.requires.least.row_arcs.each chosen.0 in
    let at_head : cost_at costs arc.to ≡ Some rest = sym c.cost_of.ensures ∙ c.in-Some-cost_of.is in
    let v : Vertex = Enter some.row.at some.row.entry in
    let u : Vertex = Leave some.row.at some.row.target in
    let tail : IsAt spots v here.place = subst (λ (k : ℕ). IsAt spots v k) chosen.1.here some.is_arc.tail in
    let read : ChildRow = c.index-as_slice-arc.result in
    let listed : slice_get c.as_slice.result.now arc.index ≡ Some some.row = subst (λ (rs : List ChildRow). slice_get rs arc.index ≡ Some some.row) (sym c.as_slice.ensures) some.at_index in
    let same : get_or c.as_slice.result.now arc.index read ≡ some.row = get_or_from_slice_get c.as_slice.result.now arc.index some.row read listed in
    record {
      more = some.row.hops;
      appended = c.in_ok-append_hops.ensures ∙ ap (λ (hs : List Hop). c.args.hops.now ++ hs) (c.as_slice-2.ensures ∙ ap (λ (r : ChildRow). r.hops) same);
      drops = omega (arith, row_sum j spots rows c.args._links.now costs c.requires.least here c.requires.stands arc chosen some rest at_head);
      goes = λ v' u' at_v at_u.
          goes_between j spots v u v' u' here.place arc.to here.rest rest some.row.hops tail some.is_arc.head at_v at_u
          (goes_by_row j spots rows c.args._links.now costs c.requires.least here c.requires.stands arc chosen some rest at_head);
    }
