use Rattle.std.proofs.Common.{◌+◌, true, arith, take}
use Rattle.dom_base.specs.declared.addr.Addr.TheVariants.{V4}
use Rattle.pce_parent.specs.declared.arcs.Arc.{Arc}
use Rattle.pce_parent.proofs.Passes.{fell, same, told, finished}
use Rattle.pce_parent.proofs.relax.relax_all.Goals as goal
use Rattle.pce_parent.proofs.relax.relax_all.Goals.{then-relax, else-relax}

pub loop-arc-preserved : goal.loop-arc-preserved
loop-arc-preserved c =
    let none : Arc = record { from = 0; to = 0; cost = 0; choice = V4 0; index = 0 } in
    let cap = c.args.job.now.query.cap in
    let arcs = c.args.arcs.now in
    let i = c.loop-arc.arc-index in
    let start = c.args.costs.now in
    let now = c.loop-arc.costs in
    let next = c.relax.new.costs in
    let inv = c.loop-arc.invariant in
    record {
      reached = c.relax.ensures.reached;
      passes = elim c.if-relax.branch [
        | then-relax w ↦
            told cap (take (i + 1) arcs) start next true c.if-relax.changed w.changed-is (fell cap (take i arcs) start now next c.loop-arc.changed inv.passes w.if-relax.ensures.passes)
        | else-relax w ↦
            told cap (take (i + 1) arcs) start next c.loop-arc.changed c.if-relax.changed w.changed-is
            (same cap arcs start now next c.loop-arc.changed i none (omega arith) inv.passes w.if-relax.ensures.passes)
      ];
    }

pub returns-clause-passes : goal.returns-clause-passes
returns-clause-passes c =
    finished c.args.job.now.query.cap c.args.arcs.now c.args.costs.now c.loop-arc.costs c.loop-arc.changed c.loop-arc.arc-index c.loop-arc-test.false c.loop-arc.invariant.passes
