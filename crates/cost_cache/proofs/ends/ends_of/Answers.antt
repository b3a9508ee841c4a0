use Rattle.std.proofs.Common.{◌≡◌, ◌+◌, ◌++◌, ◌∷◌, [], ◌∙◌, take, sym, ap, arith, ℕ}
use Rattle.std.proofs.lemmas.List.{take_more}
use Rattle.dom_base.specs.declared.query.Seed.{Seed}
use Rattle.cost_cache.specs.Hops.{IsEndBy}
use Rattle.cost_cache.proofs.Hopping.{ends_left, ends_marked}
use Rattle.cost_cache.proofs.ends.ends_of.Goals as goal
use Rattle.cost_cache.proofs.ends.ends_of.Goals.{in-Some, in_default}

pub loop-seed-preserved : goal.loop-seed-preserved
loop-seed-preserved g c =
    let rows = g.G.Links.rows c.args.links.now in
    let labels = c.args.labels.now in
    let seeds = c.args.seeds.now in
    let i = c.loop-seed.seed-index in
    let seed = c.seed-item.result in
    let more : take (i + 1) seeds ≡ take i seeds ++ seed ∷ [] =
    take_more seeds i seed (omega (arith, c.loop-seed-test.true)) ∙ ap (λ (s : Seed). take i seeds ++ s ∷ []) (sym c.seed-item.is) in
    elim c.match-end_by.branch [
      | in-Some w ↦
          let by : IsEndBy rows labels seed w.in-Some.place = rw w.in-Some.is at c.end_by.ensures in
          rw (more, w.ends-is, w.mark.ensures) (ends_marked rows labels (take i seeds) seed c.loop-seed.ends.items w.in-Some.place c.node_count.ensures.rules c.loop-seed.invariant by)
      | in_default w ↦
          let none : (j : ℕ) → ¬ IsEndBy rows labels seed j = rw w.in_default.is at c.end_by.ensures in
          rw (more, w.ends-is) (ends_left rows labels (take i seeds) seed c.loop-seed.ends.items c.loop-seed.invariant none)
    ]
