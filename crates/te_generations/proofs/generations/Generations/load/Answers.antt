use Rattle.std.proofs.Common.{ap, arith}
use Rattle.te_generations.specs.declared.live.Live.{Live}
use Rattle.te_generations.proofs.ShelfLemmas.{live_push, live_next}
use Rattle.te_generations.proofs.generations.Generations.load.Goals as goal

pub invariant_of-self-in-Ok-push : goal.invariant_of-self-in-Ok-push
invariant_of-self-in-Ok-push c =
    let before = c.self.inside in
    live_push before.older.items c.reserve.new.self.items c.push.new.self.items before.current c.replace-last.result c.replace-last.new.dest c.self.invariant
    (omega arith) c.reserve.ensures.items c.replace-last.ensures.value c.in-Ok-push.ensures.items (omega (arith, c.if-last-gt0.true))
    (ap (λ (l : Live). l.number) c.replace-last.ensures.after) (ap (λ (l : Live). l.pins) c.replace-last.ensures.after)

pub invariant_of-self-else-last-gt0 : goal.invariant_of-self-else-last-gt0
invariant_of-self-else-last-gt0 c =
    let before = c.self.inside in
    live_next before.older.items c.reserve.new.self.items before.current c.replace-last.new.dest c.self.invariant c.reserve.ensures.items
    (ap (λ (l : Live). l.number) c.replace-last.ensures.after) (ap (λ (l : Live). l.pins) c.replace-last.ensures.after)
