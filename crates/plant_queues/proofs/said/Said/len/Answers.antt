use Rattle.std.proofs.Common.{length, ap, arith}
use Rattle.plant_queues.specs.Messages.{Queued}
use Rattle.plant_queues.specs.declared.sent.Sent.{Sent}
use Rattle.plant_queues.proofs.SaidLemmas.{length-sents}
use Rattle.plant_queues.proofs.said.Said.len.Goals as goal

pub returns : goal.returns
returns c =
    omega (arith, c.len.ensures, length-sents c.self.inside.bytes.items c.self.inside.places.items, ap (λ (q : Queued Sent). length q.kept) c.self.view_is)
