use Rattle.plant_laws.proofs.LastingLemmas.EventsLast as EventsLast
use Rattle.plant_laws.proofs.lasting.runs_are_in_order.Goals as goal

pub returns : goal.returns
returns c = EventsLast.runs_are_in_order
