-- Pins of known topologies, and what a step makes of them.
use Rattle.std.specs.Prelude.{◌≡◌, ℕ, suc, Option, Some, Ok, Contains}
use Rattle.plant_laws.specs.plant_model.Types.{As, NetworkParts}
use Rattle.te_links.specs.Rows.{Rows}
use Rattle.plant_laws.specs.plant_model.declared.event.Event.{Event}
use Rattle.plant_laws.specs.plant_model.declared.event.Event.TheVariants as event
use Rattle.plant_laws.specs.plant_model.declared.outcome.Outcome.TheVariants.{Loaded}
use Rattle.plant_laws.specs.plant_model.Element.{Row}
use Rattle.plant_laws.specs.plant_model.Events.{Answered}
use Rattle.plant_laws.specs.plant_model.Names.{set_as}
use Rattle.plant_laws.specs.plant_model.Plant.{Pin, Plant, Happened, Steps}
use Rattle.plant_laws.specs.plant_model.Wire.{Codec}

-- the topology of each element and number, where it is known
abbrev pub Known : Type 0
Known = As → ℕ → Option Rows

abbrev pub IsKnown : Known → As → Pin → Type 0
IsKnown known d pin = known d pin.number ≡ Some pin.topology

-- each pin, current or of a pending request, is of the topology that is known of its element and number
pub record KnowsPins (known : Known) (s : Plant) : Type 0 where
  pub current : (d : As) → IsKnown known d (s.current d)
  pub pending : (d : As) (h : Row Pin) → Contains (s.elements d).pending.rows h → IsKnown known d h.1.item.pin

-- what an accepted load loads is known
abbrev pub KnowsLoad : Known → Event → Answered → Type 0
KnowsLoad known (event.Load d g) (Ok (Loaded k)) = known d k ≡ Some g
KnowsLoad known e answer = Unit {0}

-- the current pins after a step
abbrev pub Moves : Event → Answered → Plant → Plant → Type 0
Moves (event.Load d g) (Ok (Loaded k)) s t = (k ≡ suc (s.current d).number) × (t.current ≡ set_as d (record { number = k; topology = g }) s.current)
Moves e answer s t = t.current ≡ s.current

abbrev pub StepsMove : Type 0
StepsMove = (c : Codec) (n : NetworkParts) (s : Plant) (e : Event) (h : Happened) → Steps c n s e h → Moves e h.answer s h.state

abbrev pub StepsKnowPins : Type 0
StepsKnowPins = (known : Known) (c : Codec) (n : NetworkParts) (s : Plant) (e : Event) (h : Happened) → Steps c n s e h → KnowsLoad known e h.answer → KnowsPins known s → KnowsPins known h.state
