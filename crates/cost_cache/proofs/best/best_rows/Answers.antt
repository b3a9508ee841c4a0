use Rattle.std.proofs.Common.{◌<◌, length, take, get_or}
use Rattle.std.proofs.lemmas.List.{take_more}
use Rattle.dom_base.specs.declared.addr.Addr.TheVariants.{V4}
use Rattle.dom_base.specs.declared.addr.Addr.{Addr}
use Rattle.border_costs.specs.Asks.{HasNoPair}
use Rattle.border_costs.specs.Solutions.{IsBest}
use Rattle.border_costs.proofs.Bests.{best_added, best_left}
use Rattle.cost_cache.proofs.best.best_rows.Goals as goal
use Rattle.cost_cache.proofs.best.best_rows.Goals.{in-Some+in_ok-push, in_default}

pub loop-entry-preserved : goal.loop-entry-preserved
loop-entry-preserved g c = λ seeds seeded are.
    let rows = g.G.Links.rows c.args.links.now in
    let ask = c.args.ask.now in
    let i = c.loop-entry.entry-index in
    let none : Addr = V4 0 in
    let entry = get_or ask.entries i none in
    let below : i < length ask.entries = rw c.as_slice-entry-items.ensures at c.loop-entry-test.true in
    let more = take_more ask.entries i none below in
    let so_far = c.loop-entry.invariant seeds seeded are in
    elim c.match-branch-2.branch [
      | in-Some+in_ok-push w ↦
          let is : IsBest rows ask seeds entry w.in-Some.best = rw (w.in-Some.is, c.as_slice-entry-items.ensures) at (c.in_ok-best.ensures seeds seeded are) in
          rw (more, w.rows-is, w.in_ok-push.ensures.items) (best_added rows ask seeds (take i ask.entries) c.loop-entry.rows.items entry w.in-Some.best so_far is)
      | in_default w ↦
          let lacks : HasNoPair rows ask entry = rw (w.in_default.is, c.as_slice-entry-items.ensures) at (c.in_ok-best.ensures seeds seeded are) in
          rw (more, w.rows-is) (best_left rows ask seeds (take i ask.entries) c.loop-entry.rows.items entry so_far lacks)
    ]
