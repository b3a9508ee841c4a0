use Rattle.std.proofs.Common.{◌≡◌, ◌+◌, suc, List, take, arith, sym, subst}
use Rattle.pce_element.specs.Seen.{Seen}
use Rattle.network_members.specs.Fresh.{AreNew}
use Rattle.network_members.proofs.FreshLemmas.{take_more}
use Rattle.network_members.proofs.fresh.each_element.Goals as goal

pub loop-own-preserved : goal.loop-own-preserved
loop-own-preserved g c =
    let parts = c.args.parts.now in
    let domains = c.args.domains.now in
    let next : suc c.loop-own.own-index ≡ c.loop-own.own-index + 1 = omega arith in
    subst (λ i. AreNew g.W.World.first parts (take i domains) c.push.new.self.items) next
    (subst (λ (es : List (Seen _ _)). AreNew g.W.World.first parts (take (suc c.loop-own.own-index) domains) es) (sym c.in_ok-push.ensures.items)
    (take_more g.W.World.first parts domains c.loop-own.own-index _ c.loop-own.items.items c.in_ok-element_of.field-0 c.loop-own-test.true c.loop-own.invariant c.in_ok-element_of.ensures))
