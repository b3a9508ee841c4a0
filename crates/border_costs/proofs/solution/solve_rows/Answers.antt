use Rattle.std.proofs.Common.{rules, ◌≡◌, ◌∙◌, refl, sym, subst}
use Rattle.te_links.specs.Rows.{Rows}
use Rattle.path_search.specs.Early.{AreLabelsTo}
use Rattle.path_search.proofs.Cutting.{stops_labelled}
use Rattle.border_costs.specs.Asks.{AreSeeds}
use Rattle.border_costs.specs.Solutions.{ArePlaces, TellEntries}
use Rattle.border_costs.proofs.solution.solve_rows.Goals as goal

pub best_rows-requires : goal.best_rows-requires
best_rows-requires g c κs =
    let rows = g.G.Links.rows c.args.links.now in
    let ask = c.args.ask.now in
    let seeds = c.in_ok-seeds.seeds.items in
    let stops = c.in_ok-stops.stops.items in
    let found = c.in_ok-found.found in
    let same = sym c.search_to.ensures.same in
    let placed : ArePlaces rows ask.entries stops = rw c.as_slice.ensures at c.in_ok-stops.ensures in
    let are : AreLabelsTo rows ask.query seeds stops found.labels found.reach = rw (c.deref.ensures.value, c.deref-2.ensures.value) at c.in_ok-found.ensures.labels in
    let told : TellEntries rows ask seeds found = record {
      within = are.within;
      are_labels = are.are_labels;
      entries = λ i n has at. stops_labelled rows ask.query seeds stops found.labels found.reach are i n (placed.every i n has at) at;
    } in
    rw c.deref-3.ensures.value (
      (refl, tt),
      (subst (λ (h : Rows). AreSeeds h ask seeds) same c.in_ok-seeds.ensures.seeds, subst (λ (h : Rows). TellEntries h ask seeds found) same told),
    )

pub returns-clause-rows : goal.returns-clause-rows
returns-clause-rows g c =
    let rows = g.G.Links.rows c.args.links.now in
    let ask = c.args.ask.now in
    let seeds = c.in_ok-seeds.seeds.items in
    let same : g.G.Links.rows c.best_rows.new.links ≡ rows = c.best_rows.ensures.same ∙ c.search_to.ensures.same in
    record {
      seeds = seeds;
      are_seeds = c.in_ok-seeds.ensures.seeds;
      best = search rules;
      source_known = search rules;
      target_known = search rules;
    }
