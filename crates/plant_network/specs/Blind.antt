-- A network without topologies: what it holds, what its callers see of it, and what an event leaves.
use Rattle.std.specs.Prelude.{◌≡◌, []}
use Rattle.network_events.specs.plant_model.Types.{NetworkParts}
use Rattle.network_events.specs.plant_model.declared.event.BlindEvent.{BlindEvent}
use Rattle.network_events.specs.plant_model.Blind.{BlindSteps, Nothing, blind_opened}
use Rattle.network_events.specs.plant_model.Events.{Answered}
use Rattle.network_events.specs.plant_model.RealWire.{wire}
use Rattle.network_events.specs.network_links.Carried.{Carried}
use Rattle.network_events.specs.Standing.{Here}
use Rattle.network_events.specs.Whole as network
use Rattle.network_members.specs.Blind.{nothing_first}
use Rattle.network_members.specs.Tiers.{Tiers}
use Rattle.plant_network.specs.Held as holding

abbrev pub Held : Type 0
Held = holding.Held Nothing Nothing

-- its settings, its state, and the messages that the last accepted event put into queues
abbrev pub Whole : Type 0
Whole = network.Whole Nothing Nothing

abbrev pub held : Tiers Nothing Nothing → Carried → Held
held t c = holding.held t c

abbrev pub standing : Held → Here Nothing Nothing
standing h = holding.standing nothing_first h

abbrev pub whole : Held → Whole
whole h = holding.whole nothing_first h

-- between two events
abbrev pub IsSound : Held → Type 0
IsSound h = holding.IsSound nothing_first h

-- An event is what happens in the model, or it is refused when memory runs out; an event that is refused changes nothing. What was
-- said is what its deeds put into queues; after a refusal it is as before.
abbrev pub Stepped : Whole → BlindEvent → Answered → Whole → Type 0
Stepped old e answer new = network.Stepped (λ n s h. BlindSteps wire n s e h) old answer new

-- an event is done, and what it needs to be sound again is kept
abbrev pub Moves : Held → BlindEvent → Answered → Held → Type 0
Moves old e answer new = holding.Moves nothing_first (λ n s h. BlindSteps wire n s e h) old answer new

-- a network has just been made
abbrev pub IsBegun : NetworkParts → Whole → Type 0
IsBegun n w = (w.network ≡ n) × (w.state ≡ (blind_opened wire n).state) × (w.said ≡ [])
