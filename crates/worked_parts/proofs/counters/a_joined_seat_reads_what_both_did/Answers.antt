use Rattle.std.proofs.Common.{inl}
use Rattle.worked_parts.proofs.counters.a_joined_seat_reads_what_both_did.Goals as goal

pub turn-requires-clause-act : goal.turn-requires-clause-act
turn-requires-clause-act g c = inl (λ s. tt)

pub turn-requires-2-clause-act : goal.turn-requires-2-clause-act
turn-requires-2-clause-act g c = inl (λ s. tt)

pub turn-requires-3-clause-act : goal.turn-requires-3-clause-act
turn-requires-3-clause-act g c = inl (λ s. tt)
