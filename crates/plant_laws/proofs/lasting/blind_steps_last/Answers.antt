use Rattle.plant_laws.proofs.LastingLemmas.BlindLast as BlindLast
use Rattle.plant_laws.proofs.lasting.blind_steps_last.Goals as goal

pub returns-clause-steps : goal.returns-clause-steps
returns-clause-steps c = BlindLast.blind_steps_last

pub returns-clause-begins : goal.returns-clause-begins
returns-clause-begins c = BlindLast.blind_begins
