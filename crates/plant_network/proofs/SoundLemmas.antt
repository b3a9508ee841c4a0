-- What a network keeps from event to event.
use Rattle.network_events.specs.plant_model.declared.event.Event.{Event}
use Rattle.network_events.specs.plant_model.Events.{Answered}
use Rattle.network_events.specs.plant_model.Plant.{Happened, Steps}
use Rattle.network_events.specs.plant_model.RealWire.{wire}
use Rattle.plant_laws.specs.Lasting.{AreInOrder, JobsLast}
use Rattle.plant_laws.proofs.LastingLemmas.EventsLast.{steps_last, keys_are_before}
use Rattle.network_events.proofs.SoundLemmas as network
use Rattle.plant_network.specs.Whole.{GoesOn, Stepped}
use Rattle.plant_network.specs.Topologies.{Held, standing, whole, IsSound, Moves}

-- what happens in the step that was done
abbrev happening : (old new : Held) (e : Event) (told : Answered) → Stepped (whole old) e told (whole new) → Happened
happening old new e told st = record { answer = told; state = (whole new).state; deeds = st.deeds }

-- jobs last in an event, and tables stay in order
pub order_after : (old new : Held) (e : Event) (told : Answered) → IsSound old → Moves old e told new → AreInOrder (whole new).state × JobsLast (whole old).state (whole new).state
order_after old new e told sound moves = steps_last wire old.members.network (whole old).state e (happening old new e told moves.stepped) sound.order moves.stepped.steps

-- a network that is sound stays so
pub sound_after : (old new : Held) (e : Event) (told : Answered) → IsSound old → Moves old e told new → IsSound new
sound_after old new e told sound moves =
    network.sound_after (λ n s h. Steps wire n s e h) (standing old) (standing new) told sound moves (order_after old new e told sound moves).0
    (keys_are_before wire old.members.network (whole old).state e (happening old new e told moves.stepped) sound.keys moves.stepped.steps)

-- a run goes on by the event
pub goes_on : (old new : Held) (e : Event) (told : Answered) → Stepped (whole old) e told (whole new) → GoesOn (whole old) e told (whole new)
goes_on old new e told st = λ given entries run. (st.deeds, ((whole old).state, run, given, st.steps))
