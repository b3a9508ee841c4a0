use Rattle.std.proofs.Common.{inl}
use Rattle.worked_parts.proofs.counters.add.Goals as goal

pub turn-requires-clause-act : goal.turn-requires-clause-act
turn-requires-clause-act g c = inl (λ s. tt)
