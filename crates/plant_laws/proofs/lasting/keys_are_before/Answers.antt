use Rattle.plant_laws.proofs.LastingLemmas.EventsLast as EventsLast
use Rattle.plant_laws.proofs.lasting.keys_are_before.Goals as goal

pub returns : goal.returns
returns c = record { steps = EventsLast.keys_are_before; runs = EventsLast.runs_have_keys_before }
