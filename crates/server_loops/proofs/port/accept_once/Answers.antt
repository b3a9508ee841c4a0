use Rattle.std.proofs.Common.{◌+◌, ◌%◌, ◌^◌, refl}
use Rattle.dom_edge.specs.Heeding.{sides}
use Rattle.server_loops.specs.Serving.{heard}
use Rattle.server_loops.proofs.Hosting.{hosted}
use Rattle.server_loops.proofs.port.accept_once.Goals as goal

pub returns-in-Link-clause-hosted : goal.returns-in-Link-clause-hosted
returns-in-Link-clause-hosted g c =
    let d = g.D.Desk.desked c.args.desk.now in
    let e = g.D.Desk.desked c.serve_session.new.desk in
    let old = heard (g.K.Listener.faults c.args.listener.now) (g.K.Listener.quiets c.args.listener.now) (g.K.Listener.handed c.args.listener.now) in
    let new = heard (g.K.Listener.faults c.accept.new.self) (g.K.Listener.quiets c.accept.new.self) (g.K.Listener.handed c.accept.new.self) in
    let link = sides (g.K.Link.Wire.reading c.in-Link.link) (g.K.Link.Wire.writing c.in-Link.link) in
    let after = sides (g.K.Link.Wire.reading c.serve_session.new.link) (g.K.Link.Wire.writing c.serve_session.new.link) in
    hosted c.args.peer c.args.holder old new ((c.args.holder + 1) % 2 ^ 32) d e c.serve_session.result link after c.serve_session.ensures.serves c.in-Link.ensures.failed.later c.in-Link.ensures.quiet.later
    c.in-Link.ensures.handed refl
