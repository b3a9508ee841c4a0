use Rattle.run_laws.proofs.PinLemmas.StepLemmas as steps
use Rattle.run_laws.proofs.pins.steps_know_pins.Goals as goal

pub returns-clause-moves : goal.returns-clause-moves
returns-clause-moves c = steps.steps_move

pub returns-clause-know : goal.returns-clause-know
returns-clause-know c = steps.steps_know_pins
