use Rattle.std.proofs.Common.{◌∙◌, ◌-◌, drop, length, sym, ap, arith, length-drop}
use Rattle.std.proofs.lemmas.List.{take_all}
use Rattle.plant_queues.proofs.PieceLemmas.{joined-pieces}
use Rattle.plant_queues.proofs.queue.Queue.joined.Goals as goal

pub returns : goal.returns
returns c =
    let before = c.self.inside in
    let rest = drop before.head c.deref.result.now in
    rw (← c.self.view_is)
    (take_all (length c.deref.result.now - before.head) rest (omega (arith, length-drop before.head c.deref.result.now))
    ∙ ap (drop before.head) c.deref.ensures.value
    ∙ sym (joined-pieces before.lengths.items (drop before.head before.bytes.items) (omega (arith, c.self.invariant.all, length-drop before.head before.bytes.items))))
