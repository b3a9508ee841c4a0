use Rattle.std.proofs.Common.{◌<◌, length, take, get_or, refl, sym, ◌∙◌, subst}
use Rattle.std.proofs.lemmas.List.{take_more}
use Rattle.std.proofs.lemmas.List.Elements.{Contains-get_or}
use Rattle.dom_base.specs.declared.addr.Addr.TheVariants.{V4}
use Rattle.dom_base.specs.declared.addr.Addr.{Addr}
use Rattle.te_links.specs.Rows.{Rows}
use Rattle.border_costs.specs.Asks.{AreSeeds, HasNoPair}
use Rattle.border_costs.specs.Solutions.{IsBest, TellEntries}
use Rattle.border_costs.proofs.Bests.{best_added, best_left}
use Rattle.border_costs.proofs.best.best_rows.Goals as goal
use Rattle.border_costs.proofs.best.best_rows.Goals.{in-Some+in_ok-push, in_default}

pub best_of-requires : goal.best_of-requires
best_of-requires g c κs =
    let ask = c.args.ask.now in
    let seeds = c.args.seeds.now in
    let same = sym c.loop-entry.invariant.same in
    let none : Addr = V4 0 in
    let below : c.loop-entry.entry-index < length ask.entries = rw c.as_slice-entry-items.ensures at c.loop-entry-test.true in (
      (refl, tt),
      (
        subst (λ (h : Rows). AreSeeds h ask seeds) same c.requires.seeds,
        (
          subst (λ (h : Rows). TellEntries h ask seeds c.args.found.now) same c.requires.labels,
          rw c.as_slice-entry-items.ensures (Contains-get_or ask.entries c.loop-entry.entry-index none below),
        ),
      ),
    )

pub loop-entry-preserved : goal.loop-entry-preserved
loop-entry-preserved g c =
    let rows = g.G.Links.rows c.loop-entry.links in
    let ask = c.args.ask.now in
    let seeds = c.args.seeds.now in
    let i = c.loop-entry.entry-index in
    let none : Addr = V4 0 in
    let entry = get_or ask.entries i none in
    let below : i < length ask.entries = rw c.as_slice-entry-items.ensures at c.loop-entry-test.true in
    let more = take_more ask.entries i none below in
    record {
      same = c.best_of.ensures.same ∙ c.loop-entry.invariant.same;
      best = elim c.match-branch-2.branch [
        | in-Some+in_ok-push w ↦
            let is : IsBest rows ask seeds entry w.in-Some.best = rw (w.in-Some.is, c.as_slice-entry-items.ensures) at c.in_ok-best.ensures.best in
            rw (c.best_of.ensures.same, more, w.rows-is, w.in_ok-push.ensures.items) (best_added rows ask seeds (take i ask.entries) c.loop-entry.rows.items entry w.in-Some.best c.loop-entry.invariant.best is)
        | in_default w ↦
            let lacks : HasNoPair rows ask entry = rw (w.in_default.is, c.as_slice-entry-items.ensures) at c.in_ok-best.ensures.best in
            rw (c.best_of.ensures.same, more, w.rows-is) (best_left rows ask seeds (take i ask.entries) c.loop-entry.rows.items entry c.loop-entry.invariant.best lacks)
      ];
    }
