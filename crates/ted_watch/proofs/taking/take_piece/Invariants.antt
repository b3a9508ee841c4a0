use Rattle.std.proofs.Common.{◌≡◌, take, Ok}
use Rattle.ted_watch.specs.Watch.{known, list_at}
use Rattle.ted_watch.specs.Serving.{Feeds}
use Rattle.ted_watch.proofs.taking.take_piece.Given as goal

-- the bytes up to there were taken
abbrev pub invariant-loop-byte : goal.invariant-loop-byte
invariant-loop-byte g l = record {
  feeds : Feeds (take l.byte-index l.piece) (Ok tt) l.initial.line.items l.line.items (known l.initial.watcher) (known l.watcher) (g.L.Wire.writing l.initial.link) (g.L.Wire.writing l.link);
  list : list_at l.watcher ≡ list_at l.initial.watcher;
  reading : g.L.Wire.reading l.link ≡ g.L.Wire.reading l.initial.link;
}
