use Rattle.ted_watch.specs.Watch.{known}
use Rattle.ted_watch.specs.Serving.{sides}
use Rattle.ted_watch.proofs.Connections.{at_end, failed, quiet}
use Rattle.ted_watch.proofs.serving.turn.Goals as goal

pub returns-in-Quiet-clause-turned : goal.returns-in-Quiet-clause-turned
returns-in-Quiet-clause-turned g c =
    quiet c.args.line.now.items (known c.args.watcher.now) (sides (g.L.Wire.reading c.args.link.now) (g.L.Wire.writing c.args.link.now))
    (sides (g.L.Wire.reading c.read.new.self) (g.L.Wire.writing c.read.new.self)) c.read.new.into c.requires.begun c.in-Quiet.ensures.writing c.in-Quiet.ensures.reads

pub returns-in-End-clause-turned : goal.returns-in-End-clause-turned
returns-in-End-clause-turned g c =
    at_end c.args.line.now.items (known c.args.watcher.now) (sides (g.L.Wire.reading c.args.link.now) (g.L.Wire.writing c.args.link.now))
    (sides (g.L.Wire.reading c.read.new.self) (g.L.Wire.writing c.read.new.self)) c.read.new.into c.requires.begun c.in-End.ensures.writing c.in-End.ensures.reads

pub returns-in-Failed-clause-turned : goal.returns-in-Failed-clause-turned
returns-in-Failed-clause-turned g c =
    failed c.args.line.now.items (known c.args.watcher.now) (sides (g.L.Wire.reading c.args.link.now) (g.L.Wire.writing c.args.link.now))
    (sides (g.L.Wire.reading c.read.new.self) (g.L.Wire.writing c.read.new.self)) c.read.new.into c.requires.begun c.in-Failed.ensures.writing c.in-Failed.ensures.reads
