use Rattle.std.proofs.Common.{◌≡◌, ◌∙◌, length, drop, refl, sym, ap, subst, arith}
use Rattle.std.specs.Prelude.{slice_set}
use Rattle.std.proofs.lemmas.List.{take_at}
use Rattle.std.proofs.Math.ListN.{length-set}
use Rattle.diverse_pairs.specs.declared.arcs.TheConstants.{UNREACHED}
use Rattle.diverse_pairs.specs.Settling.{IsOpened, Settles, work}
use Rattle.diverse_pairs.specs.Listed.{listed}
use Rattle.diverse_pairs.proofs.Along.{along_among}
use Rattle.diverse_pairs.proofs.Settling.{put_off, taken_out, all_low}
use Rattle.diverse_pairs.proofs.lower.distances.Goals as goal

pub loop-node-preserved : goal.loop-node-preserved
loop-node-preserved c =
    let arcs = listed c.args.arcs.now in
    let inv = c.loop-node.invariant in
    let old = c.loop-node.distances.items in
    let new = c.settle.new.distances in
    let node = c.in-Some.node in
    let settles : Settles arcs c.args.target node old new c.put-in-Some.new.self c.settle.new.waiting = rw c.deref_mut.ensures.value at c.settle.ensures.settles in
    let long : length new ≡ c.loop-node.distances.len = omega (arith, settles.keeps.long, c.loop-node.distances.ok.0) in
    let put : c.put-in-Some.new.self ≡ slice_set c.loop-node.waiting node UNREACHED = c.put-in-Some.ensures in
    let opened : IsOpened arcs node old c.put-in-Some.new.self = subst (IsOpened arcs node old) (sym put) (taken_out arcs node old c.loop-node.waiting inv.rests) in
    rw (take_at new (drop (length new) old) c.loop-node.distances.len long) (record {
      made = settles.keeps.made inv.made;
      long = settles.keeps.long ∙ inv.long;
      as_long = settles.keeps.as_long ∙ ap length put ∙ length-set c.loop-node.waiting node UNREACHED ∙ inv.as_long;
      rests = settles.rests inv.made opened;
    })

pub loop-node-smaller : goal.loop-node-smaller
loop-node-smaller c =
    let arcs = listed c.args.arcs.now in
    let old = c.loop-node.distances.items in
    let new = c.settle.new.distances in
    let node = c.in-Some.node in
    let settles : Settles arcs c.args.target node old new c.put-in-Some.new.self c.settle.new.waiting = rw c.deref_mut.ensures.value at c.settle.ensures.settles in
    let long : length new ≡ c.loop-node.distances.len = omega (arith, settles.keeps.long, c.loop-node.distances.ok.0) in
    let put : c.put-in-Some.new.self ≡ slice_set c.loop-node.waiting node UNREACHED = c.put-in-Some.ensures in
    rw (take_at new (drop (length new) old) c.loop-node.distances.len long)
    (omega (arith, settles.keeps.less, ap (work old) put, put_off old c.loop-node.waiting node c.in-Some.ensures.0 c.in-Some.ensures.1))

pub returns-clause-distances : goal.returns-clause-distances
returns-clause-distances c =
    let g = c.args.topology.now in
    let arcs = listed c.args.arcs.now in
    let inv = c.loop-node.invariant in
    record {
      made = inv.made;
      low = all_low arcs (length g.nodes) c.loop-node.distances.items c.loop-node.waiting (along_among g arcs c.requires.along (length g.nodes) refl) inv.as_long inv.rests c.in_default.ensures;
    }
