use Rattle.std.proofs.Common.{◌≡◌, List, ℕ, length, All, drop, arith, sym, ◌∙◌, subst}
use Rattle.std.specs.declared.option.Option.{Option}
use Rattle.std.proofs.lemmas.List.{take_at}
use Rattle.pce_parent.specs.declared.arcs.Arc.{Arc}
use Rattle.pce_parent.specs.declared.spot.Spot.{Spot}
use Rattle.pce_parent.specs.Arcs.{AreRowArcs, AreLinkArcs}
use Rattle.pce_parent.specs.Costs.{IsStep, IsRelaxed, AreReached}
use Rattle.pce_parent.proofs.Steps.{row_steps, link_steps}
use Rattle.pce_parent.proofs.solved.solve_border.Goals as goal

pub settle-requires-clause-row_steps : goal.settle-requires-clause-row_steps
settle-requires-clause-row_steps c =
    let j = c.args.job.now in
    let steps = row_steps j c.in_ok-spots.spots.keys c.in_ok-rows.rows.items c.in_ok-rows.ensures.each in
    subst (λ (ss : List Spot). All (IsStep j ss) c.deref.result.now) (sym c.as_slice-2.ensures.keys)
    (subst (All (IsStep j c.in_ok-spots.spots.keys)) (sym c.deref.ensures.value) steps)

pub settle-requires-clause-link_steps : goal.settle-requires-clause-link_steps
settle-requires-clause-link_steps c =
    let j = c.args.job.now in
    let steps = link_steps j c.in_ok-spots.spots.keys c.in_ok-links.links.items c.in_ok-links.ensures.each in
    subst (λ (ss : List Spot). All (IsStep j ss) c.deref-2.result.now) (sym c.as_slice-2.ensures.keys)
    (subst (All (IsStep j c.in_ok-spots.spots.keys)) (sym c.deref-2.ensures.value) steps)

pub walk_of-requires : goal.walk_of-requires
walk_of-requires c =
    let j = c.args.job.now in
    let spots = c.in_ok-spots.spots.keys in
    let new : List (Option ℕ) = c.settle.new.costs in
    let first = c.in_ok-costs.ensures in
    let long : length new ≡ c.in_ok-costs.costs.len = omega (arith, c.in_ok-settle.ensures.reached.same_length, first.same_length, c.in_ok-costs.costs.ok.0) in
    let costs : c.deref-5.result.now ≡ new = c.deref-5.ensures.value ∙ take_at new (drop (length new) c.in_ok-costs.costs.items) c.in_ok-costs.costs.len long in
    let rows : c.deref-3.result.now ≡ c.in_ok-rows.rows.items = c.deref-3.ensures.value in
    let links : c.deref-4.result.now ≡ c.in_ok-links.links.items = c.deref-4.ensures.value in
    record {
      vertices = c.in_ok-spots.ensures;
      row_arcs = subst (λ (as' : List Arc). AreRowArcs j spots (length j.rows) as') (sym rows) c.in_ok-rows.ensures;
      link_arcs = subst (λ (as' : List Arc). AreLinkArcs j spots (length j.links) as') (sym links) c.in_ok-links.ensures;
      reached = subst (λ (cs : List (Option ℕ)). AreReached j spots cs) (sym costs) (subst (λ (ss : List Spot). AreReached j ss new) c.as_slice-2.ensures.keys c.in_ok-settle.ensures.reached);
      rows_relaxed = subst (λ (cs : List (Option ℕ)). All (IsRelaxed j.query.cap cs) c.deref-3.result.now) (sym costs)
          (subst (λ (as' : List Arc). All (IsRelaxed j.query.cap new) as') (c.deref.ensures.value ∙ sym rows) c.in_ok-settle.ensures.rows);
      links_relaxed = subst (λ (cs : List (Option ℕ)). All (IsRelaxed j.query.cap cs) c.deref-4.result.now) (sym costs)
          (subst (λ (as' : List Arc). All (IsRelaxed j.query.cap new) as') (c.deref-2.ensures.value ∙ sym links) c.in_ok-settle.ensures.links);
    }
