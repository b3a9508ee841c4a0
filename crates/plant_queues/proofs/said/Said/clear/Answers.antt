use Rattle.std.proofs.Common.{refl, ap, arith, List}
use Rattle.plant_queues.specs.Sents.{sents}
use Rattle.plant_queues.specs.SaidFields.{said_of}
use Rattle.plant_queues.specs.declared.said.MessageSpan.{MessageSpan}
use Rattle.plant_queues.specs.declared.said.Said.TheInside.{Inside}
use Rattle.plant_queues.proofs.SaidLemmas.{cleared_said}
use Rattle.plant_queues.proofs.said.Said.clear.Goals as goal

pub returns-clause-room : goal.returns-clause-room
returns-clause-room c =
    let before = c.self.inside in
    let after : Inside = record { bytes = c.clear.new.self; places = c.clear-2.new.self } in
    rw (← c.self.view_is)
    (cleared_said (said_of before) (said_of after) before.bytes.items before.places.items refl c.self.invariant
    (ap (λ (places : List MessageSpan). sents after.bytes.items places) c.clear-2.ensures.items) (omega arith) (omega arith))
