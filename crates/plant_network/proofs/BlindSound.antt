-- What a network without topologies keeps from event to event.
use Rattle.network_events.specs.plant_model.declared.event.BlindEvent.{BlindEvent}
use Rattle.network_events.specs.plant_model.Blind.{BlindHappened, BlindSteps}
use Rattle.network_events.specs.plant_model.Events.{Answered}
use Rattle.network_events.specs.plant_model.RealWire.{wire}
use Rattle.plant_laws.specs.Lasting.{Goes}
use Rattle.plant_laws.proofs.LastingLemmas.BlindLast.{blind_steps_last}
use Rattle.network_events.proofs.SoundLemmas as network
use Rattle.plant_network.specs.Blind.{Held, standing, whole, IsSound, Moves}

-- jobs last in an event, and tables and keys stay as they have to be
pub goes_after : (old new : Held) (e : BlindEvent) (told : Answered) → IsSound old → Moves old e told new → Goes (whole old).state (whole new).state
goes_after old new e told sound moves =
    let h : BlindHappened = record { answer = told; state = (whole new).state; deeds = moves.stepped.deeds } in
    blind_steps_last wire old.members.network (whole old).state e h sound.order sound.keys moves.stepped.steps

-- a network that is sound stays so
pub sound_after : (old new : Held) (e : BlindEvent) (told : Answered) → IsSound old → Moves old e told new → IsSound new
sound_after old new e told sound moves =
    let goes = goes_after old new e told sound moves in
    network.sound_after (λ n s h. BlindSteps wire n s e h) (standing old) (standing new) told sound moves goes.order goes.keys
