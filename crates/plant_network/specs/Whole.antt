-- A network with topologies as its callers see it, and what an event leaves.
use Rattle.std.specs.Prelude.{◌≡◌, List, [], ◌∷◌}
use Rattle.network_events.specs.plant_model.Types.{NetworkParts}
use Rattle.network_events.specs.plant_model.declared.event.Event.{Event}
use Rattle.network_events.specs.plant_model.declared.event.Event.TheVariants as event
use Rattle.network_events.specs.plant_model.Events.{Answered}
use Rattle.network_events.specs.plant_model.Plant.{Pin, Segment, PlantDeed, Steps, Entry, IsGiven, Run}
use Rattle.network_events.specs.plant_model.RealWire.{wire}
use Rattle.network_events.specs.Whole as network

-- its settings, its state, and the messages that the last accepted event put into queues
abbrev pub Whole : Type 0
Whole = network.Whole Pin Segment

-- An event is what happens in the model, or it is refused when memory runs out; an event that is refused changes nothing. What was
-- said is what its deeds put into queues; after a refusal it is as before.
abbrev pub Stepped : Whole → Event → Answered → Whole → Type 0
Stepped old e answer new = network.Stepped (λ n s h. Steps wire n s e h) old answer new

-- a topology is loaded by the element of its own domain
abbrev pub IsOwnLoad : Event → Type 0
IsOwnLoad (event.Load d g) = g.own ≡ d
IsOwnLoad e = Unit {0}

-- a network has just been made: a run of no event ends in its state
abbrev pub IsBegun : NetworkParts → Whole → Type 0
IsBegun n w = (w.network ≡ n) × Run wire n [] w.state × (w.said ≡ [])

-- a run goes on by this event, where what is given is what its types say
abbrev pub GoesOn : Whole → Event → Answered → Whole → Type 0
GoesOn old e answer new =
    IsGiven e → (entries : List Entry) → Run wire old.network entries old.state → (deeds : List PlantDeed) × Run wire old.network (record { event = e; answer = answer; deeds = deeds } ∷ entries) new.state
