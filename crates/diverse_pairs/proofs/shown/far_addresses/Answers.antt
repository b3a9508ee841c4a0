use Rattle.std.proofs.Common.{arith}
use Rattle.path_search.proofs.OpenForm.{hop_more, hops_done}
use Rattle.diverse_pairs.proofs.shown.far_addresses.Goals as goal

pub loop-place-preserved : goal.loop-place-preserved
loop-place-preserved c = λ ls at.
    rw c.in_ok-push-2.ensures.items
    (hop_more c.args.topology.now.links c.args.source c.args.places.now ls c.loop-place.shown.items c.loop-place.place-index 0 c.link_at.result.now at (omega arith)
    c.link_at.ensures (c.loop-place.invariant ls at))

pub returns : goal.returns
returns c = λ ls at.
    hops_done c.args.topology.now.links c.args.source c.args.places.now ls c.loop-place.shown.items c.loop-place.place-index at c.loop-place-test.false (c.loop-place.invariant ls at)

pub overflow_cast-place : goal.overflow_cast-place
overflow_cast-place c = omega (arith, c.requires c.loop-place.place-index 0 c.loop-place-test.true, c.own-own.ensures.rules.few_links)
