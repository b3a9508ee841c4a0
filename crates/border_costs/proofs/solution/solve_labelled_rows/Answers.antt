use Rattle.std.proofs.Common.{rules, arith, refl, sym, subst, ◌≡◌, ◌∙◌}
use Rattle.te_links.specs.Rows.{Rows}
use Rattle.path_search.specs.Search.{AreLabels}
use Rattle.border_costs.specs.Asks.{AreSeeds}
use Rattle.border_costs.specs.Solutions.{TellEntries}
use Rattle.border_costs.proofs.solution.solve_labelled_rows.Goals as goal

pub best_rows-requires : goal.best_rows-requires
best_rows-requires g c κs =
    let rows = g.G.Links.rows c.args.links.now in
    let ask = c.args.ask.now in
    let seeds = c.in_ok-seeds.seeds.items in
    let same = sym c.search.ensures.same in
    let are : AreLabels rows ask.query seeds c.in_ok-labels.labels = rw c.deref.ensures.value at c.in_ok-labels.ensures.labels in
    let told : TellEntries rows ask seeds (record { labels = c.in_ok-labels.labels; reach = ask.query.cap }) = record {
      within = omega arith;
      are_labels = are;
      entries = λ i n has at. are.each i n at;
    } in
    rw c.deref-2.ensures.value (
      (refl, tt),
      (subst (λ (h : Rows). AreSeeds h ask seeds) same c.in_ok-seeds.ensures.seeds, subst (λ (h : Rows). TellEntries h ask seeds (record { labels = c.in_ok-labels.labels; reach = ask.query.cap })) same told),
    )

pub returns-clause-rows : goal.returns-clause-rows
returns-clause-rows g c =
    let rows = g.G.Links.rows c.args.links.now in
    let ask = c.args.ask.now in
    let seeds = c.in_ok-seeds.seeds.items in
    let same : g.G.Links.rows c.best_rows.new.links ≡ rows = c.best_rows.ensures.same ∙ c.search.ensures.same in
    record {
      are_rows = record {
        seeds = seeds;
        are_seeds = c.in_ok-seeds.ensures.seeds;
        best = search rules;
        source_known = search rules;
        target_known = search rules;
      };
      labels = search rules;
    }
