use Rattle.plant_laws.proofs.LastingLemmas.EventsLast as EventsLast
use Rattle.plant_laws.proofs.lasting.steps_last.Goals as goal

pub returns : goal.returns
returns c = EventsLast.steps_last
