use Rattle.std.proofs.Common.{◌∙◌, sym, ap, ℕ, List, length, drop, length-append}
use Rattle.plant_queues.proofs.PieceLemmas.{length-pieces}
use Rattle.plant_queues.proofs.queue.Queue.len.Goals as goal

pub returns : goal.returns
returns c =
    let a = c.self.inside in
    rw (← c.self.view_is)
    (sym (length-append c.as_slices.result.0.now c.as_slices.result.1.now) ∙ ap (λ (ns : List ℕ). length ns) c.as_slices.ensures.items ∙ sym (length-pieces a.lengths.items (drop a.head a.bytes.items)))
