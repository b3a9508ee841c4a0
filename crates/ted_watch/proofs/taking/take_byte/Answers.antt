use Rattle.ted_watch.specs.Watch.{known}
use Rattle.ted_watch.proofs.Pieces.{byte_fed}
use Rattle.ted_watch.proofs.taking.take_byte.Goals as goal

pub returns-else-byte-eq10-clause-feeds : goal.returns-else-byte-eq10-clause-feeds
returns-else-byte-eq10-clause-feeds g c =
    byte_fed c.args.byte c.args.line.now.items c.go_on.new.line.items c.go_on.result (known c.args.watcher.now) (g.L.Wire.writing c.args.link.now) c.requires.begun c.if-byte-eq10.false c.go_on.ensures
