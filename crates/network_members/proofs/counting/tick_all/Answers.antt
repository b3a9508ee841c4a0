use Rattle.std.proofs.Common.{◌≡◌, ◌+◌, ℕ, set, suc, arith, subst}
use Rattle.network_members.specs.Becoming.{TickedTo}
use Rattle.network_members.proofs.TickLemmas.{ticked_more, before_at}
use Rattle.network_members.proofs.counting.tick_all.Goals as goal

pub tick-requires : goal.tick-requires
tick-requires g c = before_at g.W.World.first c.args.now.0 c.loop-i.i c.args.items.now.items c.loop-i.items.items c.index_mut.result.now c.loop-i.invariant c.requires (omega (arith, c.loop-i-test.true)) c.index_mut.ensures.value

pub loop-i-preserved : goal.loop-i-preserved
loop-i-preserved g c =
    let old = c.args.items.now.items in
    let mid = c.loop-i.items.items in
    let next : suc c.loop-i.i ≡ c.loop-i.i + 1 = omega arith in
    subst (λ (i : ℕ). TickedTo c.args.now.0 i old (set mid c.loop-i.i c.tick.new.self)) next
    (ticked_more g.W.World.first c.args.now.0 c.loop-i.i old mid c.index_mut.result.now c.tick.new.self c.loop-i.invariant (omega (arith, c.loop-i-test.true)) c.index_mut.ensures.value c.tick.ensures)
