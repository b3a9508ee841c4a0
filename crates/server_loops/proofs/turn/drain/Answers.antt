use Rattle.std.proofs.Common.{Ok}
use Rattle.plant_model.specs.declared.event.Event.TheVariants.{Drain}
use Rattle.plant_model.specs.declared.outcome.Outcome.TheVariants.{Drained}
use Rattle.server_loops.specs.Desks.{Goes}
use Rattle.dom_edge.specs.Heeding.{sides}
use Rattle.server_loops.proofs.Turning.{drain_refused, drained_so}
use Rattle.server_loops.proofs.turn.drain.Goals as goal

pub returns-in-Err-clause-drains : goal.returns-in-Err-clause-drains
returns-in-Err-clause-drains g c =
    let old = g.D.Desk.desked c.args.desk.now in
    let new = g.D.Desk.desked c.act.new.self in
    let s = sides (g.L.Wire.reading c.args.link.now) (g.L.Wire.writing c.args.link.now) in
    drain_refused c.args.peer c.args.holder old new s c.in-Err.why c.end_of.result c.in-Err.ensures.goes c.end_of.ensures

pub returns-in-Ok-Drained-clause-drains : goal.returns-in-Ok-Drained-clause-drains
returns-in-Ok-Drained-clause-drains g c =
    let old = g.D.Desk.desked c.args.desk.now in
    let new = g.D.Desk.desked c.act.new.self in
    let r = g.L.Wire.reading c.args.link.now in
    let r1 = g.L.Wire.reading c.hand_on.new.link in
    let w = g.L.Wire.writing c.args.link.now in
    let w1 = g.L.Wire.writing c.hand_on.new.link in
    let bytes = c.in-Ok-Drained.bytes in
    let ended = c.in-Ok-Drained.ended in
    let goes : Goes old new (Drain c.args.peer c.args.holder) (Ok (Drained bytes ended)) = rw c.in-Ok-Drained.field-0-is at c.in-Ok-Drained.ensures.goes in
    drained_so c.args.peer c.args.holder old new r r1 w w1 bytes ended c.hand_on.result c.hand_on.ensures.reading goes c.hand_on.ensures.written
