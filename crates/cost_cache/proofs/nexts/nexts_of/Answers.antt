use Rattle.std.proofs.Common.{◌≡◌, ◌∙◌, subst, arith, length}
use Rattle.dom_base.specs.declared.query.Query.{Query}
use Rattle.te_links.specs.Rows.{Rows}
use Rattle.cost_cache.specs.Hops.{AreNextsUpTo, IsNextAt}
use Rattle.cost_cache.proofs.Hopping.{next_more, nexts_are}
use Rattle.cost_cache.proofs.nexts.nexts_of.Goals as goal

pub loop-place-preserved : goal.loop-place-preserved
loop-place-preserved g c =
    let rows = g.G.Links.rows c.args.links.now in
    let q = c.args.query.now in
    let seeds = c.args.seeds.now in
    let labels = c.args.labels.now in
    let inv = c.loop-place.invariant in
    let i = c.loop-place.place in
    let asked : IsNextAt (g.G.Links.rows c.loop-place.links) q seeds labels i c.next_of.result =
    subst (λ (r : Query). IsNextAt (g.G.Links.rows c.loop-place.links) r seeds labels i c.next_of.result) c.in_ok-prepared.ensures c.next_of.ensures.next in
    let is : IsNextAt rows q seeds labels i c.next_of.result = subst (λ (h : Rows). IsNextAt h q seeds labels i c.next_of.result) inv.same asked in
    record {
      same = c.next_of.ensures.same ∙ inv.same;
      nexts = rw c.in_ok-push.ensures.items (next_more rows q seeds labels i c.loop-place.nexts.items c.next_of.result inv.nexts is);
    }

pub returns-clause-nexts : goal.returns-clause-nexts
returns-clause-nexts g c =
    let rows = g.G.Links.rows c.args.links.now in
    let all : c.loop-place.place ≡ length rows.nodes = omega (arith, c.loop-place-test.false, c.node_count-place-end.ensures.count, c.loop-place.auto.place-end) in
    nexts_are rows c.args.query.now c.args.seeds.now c.args.labels.now c.loop-place.nexts.items
    (subst (λ n. AreNextsUpTo rows c.args.query.now c.args.seeds.now c.args.labels.now n c.loop-place.nexts.items) all c.loop-place.invariant.nexts)
