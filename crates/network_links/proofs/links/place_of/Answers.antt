use Rattle.std.proofs.Common.{◌≡◌, ◌∙◌, ◌+◌, suc, arith, sym, subst}
use Rattle.network_links.proofs.PlaceLemmas.{Other, other_here, other_more, other_all}
use Rattle.network_links.proofs.links.place_of.Goals as goal

pub returns-then-is_between : goal.returns-then-is_between
returns-then-is_between c =
    other_here c.args.at c.args.to c.loop-i.i c.end_of-end.result c.args.links.now c.index-links-i.result c.loop-i.invariant c.loop-i-test.true c.index-links-i.is (sym c.is_between.ensures ∙ c.if-is_between.true) c.end_of-end.ensures

pub loop-i-preserved : goal.loop-i-preserved
loop-i-preserved c =
    let next : suc c.loop-i.i ≡ c.loop-i.i + 1 = omega arith in
    subst (λ i. Other c.args.at c.args.to i c.args.links.now) next (other_more c.args.at c.args.to c.loop-i.i c.args.links.now c.index-links-i.result c.loop-i.invariant c.loop-i-test.true c.index-links-i.is (sym c.is_between.ensures ∙ c.if-is_between.false))

pub returns : goal.returns
returns c = other_all c.args.at c.args.to c.loop-i.i c.args.links.now c.loop-i.invariant c.loop-i-test.false
