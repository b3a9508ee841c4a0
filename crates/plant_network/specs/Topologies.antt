-- The contents of a network with topologies.
use Rattle.network_events.specs.plant_model.declared.event.Event.{Event}
use Rattle.network_events.specs.plant_model.Events.{Answered}
use Rattle.network_events.specs.plant_model.Plant.{Pin, Segment, Steps, first_pin}
use Rattle.network_events.specs.plant_model.RealWire.{wire}
use Rattle.network_events.specs.network_links.Carried.{Carried}
use Rattle.network_events.specs.Standing.{Here}
use Rattle.network_events.specs.Moving as event
use Rattle.network_members.specs.Topologies.{Tiers}
use Rattle.plant_network.specs.Held as holding
use Rattle.plant_network.specs.Whole.{Whole}

abbrev pub Held : Type 0
Held = holding.Held Pin Segment

abbrev pub held : Tiers → Carried → Held
held t c = holding.held t c

abbrev pub standing : Held → Here Pin Segment
standing h = holding.standing first_pin h

abbrev pub whole : Held → Whole
whole h = holding.whole first_pin h

-- what an event leaves in memory
abbrev pub IsKept : Held → Type 0
IsKept h = event.IsKept (standing h)

-- between two events
abbrev pub IsSound : Held → Type 0
IsSound h = holding.IsSound first_pin h

-- an event is done, and what it needs to be sound again is kept
abbrev pub Moves : Held → Event → Answered → Held → Type 0
Moves old e answer new = holding.Moves first_pin (λ n s h. Steps wire n s e h) old answer new
