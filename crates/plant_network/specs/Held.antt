-- The contents of a network, for any kind of pins and keys: its members, and the traffic between them.
use Rattle.network_events.specs.plant_model.Types.{As}
use Rattle.network_events.specs.plant_model.Events.{Answered}
use Rattle.network_events.specs.network_links.Carried.{Carried, flow_of}
use Rattle.network_events.specs.Standing.{Here, here}
use Rattle.network_events.specs.Moving as event
use Rattle.network_events.specs.Whole.{Step, Whole}
use Rattle.network_members.specs.Tiers.{Tiers, standing_of}

pub record Held (P : Type 0) (S : Type 0) : Type 0 where
  pub members : Tiers P S
  pub carried : Carried

module _ {P : Type 0} {S : Type 0} where
  abbrev pub held : Tiers P S → Carried → Held P S
  held t c = record { members = t; carried = c }

  -- where they stand, in a world of which nothing is known yet but this
  abbrev pub standing : (As → P) → Held P S → Here P S
  standing first h = here (standing_of first h.members) (flow_of h.carried)

  abbrev pub whole : (As → P) → Held P S → Whole P S
  whole first h = event.whole (standing first h)

  -- between two events
  abbrev pub IsSound : (As → P) → Held P S → Type 0
  IsSound first h = event.IsSound (standing first h)

  -- a step is done, and what it needs to be sound again is kept
  abbrev pub Moves : (As → P) → Step P S → Held P S → Answered → Held P S → Type 0
  Moves first step old answer new = event.Moves step (standing first old) answer (standing first new)
