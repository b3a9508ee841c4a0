use Rattle.std.proofs.Common.{Ok}
use Rattle.plant_model.specs.declared.event.Event.TheVariants.{Open}
use Rattle.server_loops.specs.Desks.{Goes}
use Rattle.dom_edge.specs.Heeding.{sides}
use Rattle.server_loops.proofs.Closing.{closed, unopened_session}
use Rattle.server_loops.proofs.sessions.serve_session.Goals as goal

pub returns-in-Err-clause-serves : goal.returns-in-Err-clause-serves
returns-in-Err-clause-serves g c =
    let old = g.D.Desk.desked c.args.desk.now in
    let new = g.D.Desk.desked c.act.new.self in
    let s = sides (g.L.Wire.reading c.args.link.now) (g.L.Wire.writing c.args.link.now) in
    unopened_session c.args.peer c.args.holder c.args.turns old new s c.in-Err.why c.unopened.result c.in-Err.ensures.goes c.unopened.ensures

pub returns-clause-serves : goal.returns-clause-serves
returns-clause-serves g c =
    let old = g.D.Desk.desked c.args.desk.now in
    let opened = g.D.Desk.desked c.act.new.self in
    let served = g.D.Desk.desked c.serve_open-end.new.desk in
    let new = g.D.Desk.desked c.shut.new.desk in
    let before = sides (g.L.Wire.reading c.args.link.now) (g.L.Wire.writing c.args.link.now) in
    let after = sides (g.L.Wire.reading c.serve_open-end.new.link) (g.L.Wire.writing c.serve_open-end.new.link) in
    let outcome = c.in_default.field-0 in
    let goes : Goes old opened (Open c.args.peer c.args.holder) (Ok outcome) = rw c.in_default.is at c.act.ensures.goes in
    closed c.args.peer c.args.holder c.args.turns outcome old opened served new before after c.serve_open-end.result c.shut.result goes c.serve_open-end.ensures.served c.shut.ensures.closed
