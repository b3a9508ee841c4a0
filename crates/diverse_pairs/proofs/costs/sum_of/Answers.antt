use Rattle.std.proofs.Common.{◌≡◌, ◌+◌, suc, take, arith, ap, ◌∙◌}
use Rattle.std.proofs.lemmas.List.Elements.{All-contains}
use Rattle.std.specs.Prelude.{Contains}
use Rattle.dom_base.specs.declared.addr.Addr.TheVariants.{V4}
use Rattle.walk_laws.specs.Walks.{cost}
use Rattle.diverse_pairs.proofs.Adding.{next_link, all_added}
use Rattle.diverse_pairs.proofs.costs.sum_of.Goals as goal

pub loop-far-preserved : goal.loop-far-preserved
loop-far-preserved c =
    let g = c.args.topology.now in
    let q = c.args.query.now in
    let i = c.loop-far.far-index in
    record {
      bound = omega (arith, c.loop-far.invariant.bound, c.weight_at.ensures.bound);
      cost = λ ls is all.
          let n = next_link q c.args.fars.now ls i (V4 0) is c.loop-far-test.true in
          let here = c.weight_at.ensures.weight n.link (All-contains (Contains g.links) ls n.link all n.among) n.far in
          let one : i + 1 ≡ suc i = omega arith in
          omega (arith, c.loop-far.invariant.cost ls is all, n.more, here, ap (λ k. cost q (take k ls)) one);
    }

pub returns-clause-cost : goal.returns-clause-cost
returns-clause-cost c = λ ls is all.
    c.loop-far.invariant.cost ls is all ∙ all_added c.args.query.now c.args.fars.now ls c.loop-far.far-index is c.loop-far-test.false
