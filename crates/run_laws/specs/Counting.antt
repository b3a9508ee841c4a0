-- How many requests a network without a parent sends: to one neighbour no more than it is fed octets. So where few are fed no id wraps around.
use Rattle.std.specs.Prelude.{◌≡◌, ◌≤◌, ◌+◌, ℕ, List, [], ◌∷◌, length, None}
use Rattle.plant_laws.specs.plant_model.Types.{As, NetworkParts, Outside}
use Rattle.plant_laws.specs.plant_model.declared.event.Event.{Event}
use Rattle.plant_laws.specs.plant_model.declared.event.Event.TheVariants as event
use Rattle.plant_laws.specs.plant_model.Wire.{Codec}
use Rattle.plant_laws.specs.plant_model.RealWire.{wire}
use Rattle.plant_laws.specs.plant_model.Laws.{IsNetwork}
use Rattle.plant_laws.specs.plant_model.State.{Takes}
use Rattle.plant_laws.specs.plant_model.Plant.{Plant, PlantDeed, Entry, Run, deeds_of}
use Rattle.plant_laws.specs.Transcript.{Transcript, asks}
use Rattle.plant_laws.specs.About.{IsShort}

-- the octets that outside peers feed, whether they are accepted or not
abbrev pub fed_by : Event → ℕ
fed_by (event.Feed i bytes) = length bytes
fed_by e = 0

abbrev pub fed_bytes : List Entry → ℕ
fed_bytes [] = 0
fed_bytes (e ∷ older) = fed_by e.event + fed_bytes older

-- the messages that are taken from outside peers
abbrev pub heard_in : PlantDeed → ℕ
heard_in (Takes at (Outside i) m os) = 1
heard_in e = 0

abbrev pub heard : Transcript → ℕ
heard [] = 0
heard (d ∷ older) = heard_in d + heard older

-- the settings have no parent
abbrev pub HasNoParent : NetworkParts → Type 0
HasNoParent n = n.parent ≡ None

-- No more messages are taken from outside than octets were fed.
abbrev pub TakenAreFed : Type 0
TakenAreFed = (n : NetworkParts) (es : List Entry) (s : Plant) → Run wire n es s → heard (deeds_of wire n es) ≤ fed_bytes es

-- A message from outside has one request, and a request goes through each domain once: so without a parent no element sends a neighbour
-- more requests than messages were taken from outside.
abbrev pub AskedAreFew : Type 0
AskedAreFew = (n : NetworkParts) → IsNetwork n → HasNoParent n → (es : List Entry) (s : Plant) → Run wire n es s → (a b : As) →
    asks a b (deeds_of wire n es) ≤ heard (deeds_of wire n es)

-- So where no more octets were fed than there are ids, none wraps around.
abbrev pub FewAreShort : Type 0
FewAreShort = (n : NetworkParts) → IsNetwork n → HasNoParent n → (es : List Entry) (s : Plant) → Run wire n es s → fed_bytes es ≤ 4294967295 → IsShort (deeds_of wire n es)

-- the runs of a network without a parent, over the wire of PCEP, that were fed no more octets than there are ids
abbrev pub OverFewOctets : (Codec → NetworkParts → List Entry → Plant → Type 0) → Type 0
OverFewOctets Holds = (n : NetworkParts) → IsNetwork n → HasNoParent n → (es : List Entry) (s : Plant) → Run wire n es s → fed_bytes es ≤ 4294967295 → Holds wire n es s
