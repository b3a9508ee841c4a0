use Rattle.std.specs.Io.KnownBytes.{Keeps}
use Rattle.dom_edge.specs.Sockets.{SameCounts}
use Rattle.dom_edge.proofs.sockets.link.SocketLink.send.Given as goal

abbrev pub invariant-loop-look : goal.invariant-loop-look
invariant-loop-look g l = record {
  counts : SameCounts l.initial.self l.self;
  kept : Keeps (g.S.Write.contents l.initial.self.stream) (g.S.Write.contents l.self.stream);
}
