use Rattle.network_events.proofs.TurnLaws as laws
use Rattle.network_events.proofs.law.steps_are_turns.Goals as goal

pub returns-clause-steps : goal.returns-clause-steps
returns-clause-steps c = laws.steps_are_turns

pub returns-clause-ticks : goal.returns-clause-ticks
returns-clause-ticks c = laws.ticks_are_turns
