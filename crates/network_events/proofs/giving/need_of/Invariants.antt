use Rattle.std.proofs.Common.{◌≡◌, ◌+◌, drop}
use Rattle.plant_queues.specs.Messages.{total}
use Rattle.plant_queues.specs.Sents.{size_of}
use Rattle.network_events.proofs.giving.need_of.Given as goal

abbrev pub invariant-loop-k : goal.invariant-loop-k
invariant-loop-k l = l.bytes + total size_of (drop l.k l.letters.kept) ≡ total size_of l.letters.kept
