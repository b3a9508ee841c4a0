-- The topologies that a history tells. All pins are of these.
use Rattle.std.specs.Prelude.{◌≡◌, ◌⊎◌, ◌&&◌, ◌==◌, ℕ, cond, List, [], ◌∷◌, ◌++◌, Option, Some, None, Ok, Contains}
use Rattle.plant_laws.specs.plant_model.Types.{As, NetworkParts}
use Rattle.te_links.specs.Rows.{Rows}
use Rattle.plant_text.specs.Names.{same_as}
use Rattle.plant_laws.specs.plant_model.declared.event.Event.{Event}
use Rattle.plant_laws.specs.plant_model.declared.event.Event.TheVariants as event
use Rattle.plant_laws.specs.plant_model.declared.outcome.Outcome.TheVariants.{Loaded}
use Rattle.plant_laws.specs.plant_model.Element.{Row}
use Rattle.plant_laws.specs.plant_model.Events.{Answered}
use Rattle.plant_laws.specs.plant_model.Plant.{Pin, Plant, PlantDeed, Steps}
use Rattle.plant_laws.specs.plant_model.Wire.{Codec}
use Rattle.run_laws.specs.PinSteps.{Known, KnowsPins}

-- an event with its answer
abbrev pub Told : Type 0
Told = Event × Answered

-- these events, the oldest first, with these answers, lead from one state to another
abbrev pub Leads : Codec → NetworkParts → Plant → List Told → Plant → Type 0
Leads c n s [] t = t ≡ s
Leads c n s (e ∷ es) t = (mid : Plant) × (deeds : List PlantDeed) × Steps c n s e.0 (record { answer = e.1; state = mid; deeds = deeds }) × Leads c n mid es t

-- ---- what a history tells

-- the topology that an event loads, if it loads one of this element and number
abbrev pub loaded_by : Event → Answered → As → ℕ → Option Rows
loaded_by (event.Load d g) (Ok (Loaded k)) e n = cond (same_as d e && (k == n)) (Some g) None
loaded_by a r e n = None

abbrev pub or_else : Option Rows → Option Rows → Option Rows
or_else (Some g) o = Some g
or_else None o = o

-- what is known after one event more
abbrev pub with_event : Known → Told → Known
with_event known e d n = or_else (known d n) (loaded_by e.0 e.1 d n)

abbrev pub known_after : Known → List Told → Known
known_after known [] = known
known_after known (e ∷ es) = known_after (with_event known e) es

-- of each element the current topology
abbrev pub known_now : Plant → Known
known_now s d n = cond ((s.current d).number == n) (Some (s.current d).topology) None

-- the current topologies at the beginning, and what was loaded since
abbrev pub known_in : Plant → List Told → Known
known_in s es = known_after (known_now s) es

-- ---- the laws

-- each pending request has the current pin of its element
abbrev pub PinsAreNow : Plant → Type 0
PinsAreNow s = (d : As) (h : Row Pin) → Contains (s.elements d).pending.rows h → h.1.item.pin ≡ s.current d

abbrev pub HistoriesKnowPins : Type 0
HistoriesKnowPins = (c : Codec) (n : NetworkParts) (s : Plant) (es : List Told) (t : Plant) → PinsAreNow s → Leads c n s es t → KnowsPins (known_in s es) t

-- what is told stays, whatever comes later
abbrev pub KnownStays : Type 0
KnownStays = (s : Plant) (es more : List Told) (d : As) (k : ℕ) (g : Rows) → known_in s es d k ≡ Some g → known_in s (es ++ more) d k ≡ Some g

-- a pin of an element, current or of a pending request
abbrev pub HasPin : Plant → As → Pin → Type 0
HasPin s d pin = (pin ≡ s.current d) ⊎ ((h : Row Pin) × Contains (s.elements d).pending.rows h × (pin ≡ h.1.item.pin))

abbrev pub PinsAreOne : Type 0
PinsAreOne = (c : Codec) (n : NetworkParts) (s t u : Plant) (es more : List Told) → PinsAreNow s → Leads c n s es t → Leads c n t more u → (d : As) (p q : Pin) →
    HasPin t d p → HasPin u d q → p.number ≡ q.number → p.topology ≡ q.topology
