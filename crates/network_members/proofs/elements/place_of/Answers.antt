use Rattle.std.proofs.Common.{◌≡◌, ◌∙◌, ◌+◌, suc, arith, sym, subst}
use Rattle.network_members.proofs.DomainLemmas.{Skips, skips_here, skips_more, skips_all}
use Rattle.network_members.proofs.elements.place_of.Goals as goal

pub returns-then-is_same : goal.returns-then-is_same
returns-then-is_same c = skips_here c.args.at c.loop-i.i c.args.domains.now _ c.loop-i.invariant c.loop-i-test.true (sym c.is_same.ensures ∙ c.if-is_same.true)

pub loop-i-preserved : goal.loop-i-preserved
loop-i-preserved c =
    let next : suc c.loop-i.i ≡ c.loop-i.i + 1 = omega arith in
    subst (λ i. Skips c.args.at i c.args.domains.now) next (skips_more c.args.at c.loop-i.i c.args.domains.now _ c.loop-i.invariant c.loop-i-test.true (sym c.is_same.ensures ∙ c.if-is_same.false))

pub returns : goal.returns
returns c = skips_all c.args.at c.loop-i.i c.args.domains.now c.loop-i.invariant c.loop-i-test.false
