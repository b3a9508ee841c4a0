use Rattle.std.proofs.Common.{arith}
use Rattle.border_costs.specs.Ways.{IsWayAt, IsNoWayAt}
use Rattle.border_costs.proofs.WaysOut.{way_added, way_left, all_ways, target_alone}
use Rattle.border_costs.proofs.ways.ways_of.Goals as goal
use Rattle.border_costs.proofs.ways.ways_of.Goals.{in-Some+in_ok-push-in-Next, in_default, in-Node+in_ok-push-in-Node, in-Next+else-loop-index-test}

pub loop-index-preserved : goal.loop-index-preserved
loop-index-preserved g c =
    let rows = g.G.Links.rows c.args.links.now in
    let q = c.args.ask.now.query in
    let b = c.in-Next.next in
    let i = c.loop-index.index in
    let ways = c.loop-index.ways.items in
    elim c.match-way_at.branch [
      | in-Some+in_ok-push-in-Next w ↦
          let is : IsWayAt rows q b i w.in-Some.way = rw w.in-Some.is at c.way_at.ensures in
          rw (w.ways-is, w.in_ok-push-in-Next.ensures.items) (way_added rows q b c.out_count-index-end.ensures.order i ways w.in-Some.way c.loop-index.invariant is)
      | in_default w ↦
          let none : IsNoWayAt rows q b i = rw w.in_default.is at c.way_at.ensures in
          rw w.ways-is (way_left rows q b i ways c.loop-index.invariant none)
    ]

pub returns : goal.returns
returns g c =
    let rows = g.G.Links.rows c.args.links.now in
    let q = c.args.ask.now.query in
    elim c.match-ask.branch [
      | in-Node+in_ok-push-in-Node w ↦ record {
        ways = rw (w.ways-is, w.in_ok-push-in-Node.ensures.items, w.seed_of_target.ensures, c.new-ways.ensures.items, w.in-Node.is) (target_alone rows q w.in-Node.target);
      }
      | in-Next+else-loop-index-test w ↦ record {
        ways = rw (w.ways-is, w.in-Next.is)
            (all_ways rows q w.in-Next.next w.loop-index.index w.loop-index.ways.items w.loop-index.invariant (omega (arith, w.loop-index-test.false, w.out_count-index-end.ensures.count)));
      }
    ]
