use Rattle.std.proofs.Common.{◌+◌, ◌∙◌, ap, subst, sym}
use Rattle.dom_edge.specs.Causes.{next_count}
use Rattle.dom_edge.proofs.Counts.{counted_more}
use Rattle.server_loops.proofs.Telling.{IsTelling, one_told}
use Rattle.server_loops.proofs.ticking.tick_on.Goals as goal

pub loop-turn-preserved : goal.loop-turn-preserved
loop-turn-preserved g c =
    let old = g.D.Desk.desked c.args.desk.now in
    let mid = g.D.Desk.desked c.loop-turn.desk in
    let new = g.D.Desk.desked c.tell-told.new.desk in
    let last = g.C.Clock.last c.args.clock.now in
    let now = g.C.Clock.last c.loop-turn.clock in
    let reading = c.now-now.result.0 in
    record {
      telling = subst (λ n. IsTelling (c.loop-turn.turn + 1) c.tell-told.result old new last n) (sym c.now-now.ensures.reading)
          (one_told c.loop-turn.turn c.loop-turn.told old mid new last now c.loop-turn.invariant.telling reading c.now-now.ensures.never_falls c.tell-told.result c.tell-told.ensures.told);
      stays = λ site is. c.tell-told.ensures.stays site (c.loop-turn.invariant.stays site is);
      counted = c.now-now.ensures.counted ∙ ap next_count c.loop-turn.invariant.counted ∙ sym (counted_more c.loop-turn.turn (g.C.Clock.readings c.args.clock.now));
    }
