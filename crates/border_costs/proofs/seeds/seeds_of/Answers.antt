use Rattle.std.proofs.Common.{arith, refl}
use Rattle.border_costs.specs.Asks.{IsSeedAt, IsNoSeedAt}
use Rattle.border_costs.proofs.Seeding.{seed_added, seed_left, all_seeds}
use Rattle.border_costs.proofs.seeds.seeds_of.Goals as goal
use Rattle.border_costs.proofs.seeds.seeds_of.Goals.{in-Some+in_ok-push-in-Next, in_default, in-Node+in_ok-push-in-Node, in-Next+else-loop-index-test}

pub loop-index-preserved : goal.loop-index-preserved
loop-index-preserved g c =
    let rows = g.G.Links.rows c.args.links.now in
    let ask = c.args.ask.now in
    let b = c.in-Next.next in
    let i = c.loop-index.index in
    elim c.match-seed_at.branch [
      | in-Some+in_ok-push-in-Next w ↦
          let is : IsSeedAt rows ask.query b ask.down i w.in-Some.seed = rw (w.in-Some.is, c.as_slice.ensures) at c.seed_at.ensures in
          rw (w.seeds-is, w.in_ok-push-in-Next.ensures.items) (seed_added rows ask.query b ask.down i c.loop-index.seeds.items w.in-Some.seed c.loop-index.invariant is)
      | in_default w ↦
          let none : IsNoSeedAt rows ask.query b ask.down i = rw (w.in_default.is, c.as_slice.ensures) at c.seed_at.ensures in
          rw w.seeds-is (seed_left rows ask.query b ask.down i c.loop-index.seeds.items c.loop-index.invariant none)
    ]

pub returns : goal.returns
returns g c =
    let rows = g.G.Links.rows c.args.links.now in
    let ask = c.args.ask.now in
    elim c.match-ask.branch [
      | in-Node+in_ok-push-in-Node w ↦
          record {
            seeds = rw (w.seeds-is, w.in_ok-push-in-Node.ensures.items, w.seed_of_target.ensures, c.new-seeds.ensures.items) (record {
              are = rw w.in-Node.is refl;
              few = omega arith;
            });
          }
      | in-Next+else-loop-index-test w ↦
          let upto = w.loop-index.invariant in
          let count = w.out_count-index-end.ensures.count in
          let b = w.in-Next.next in
          let rules = w.out_count-index-end.ensures.rules in
          record {
            seeds = rw w.seeds-is (record {
              are = rw w.in-Next.is (all_seeds rows ask.query b ask.down w.loop-index.index w.loop-index.seeds.items upto (omega (arith, w.loop-index-test.false, count)));
              few = omega (arith, upto.few, w.loop-index.auto.index-end, count, rules.few_outs);
            });
          }
    ]
