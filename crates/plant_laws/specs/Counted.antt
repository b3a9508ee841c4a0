-- Ids count requests. As long as no id wraps around, the last id of an element towards a neighbour is the number of the requests
-- that it sent there, no request that waits has a greater id, so the next request gets the next number, and no id is given twice.
use Rattle.std.specs.Prelude.{◌≡◌, ◌≢◌, ◌≤◌, ◌<◌, ℕ, suc, List, Contains, Some}
use Rattle.plant_model.specs.Types.{As, Addr, Wanted, NetworkParts, Inner}
use Rattle.plant_text.specs.Names.{parent_as}
use Rattle.plant_model.specs.Wire.{Codec}
use Rattle.plant_model.specs.Writing.{request_message}
use Rattle.plant_model.specs.Element.{Waits, Row, Way, way_to, fresh_id, id_most}
use Rattle.plant_model.specs.Plant.{Pin, Plant, Entry, deeds_of}
use Rattle.plant_laws.specs.Transcript.{Transcript, Within, SentIn, asks}
use Rattle.plant_laws.specs.Runs.{InShortRuns}

-- the ids of an element towards a neighbour
pub record AreCounted (now : Transcript) (s : Plant) (a b : As) : Type 0 where
  pub last : (w : Way) → way_to (Inner b) (s.elements a).ways ≡ Some w → w.last_id ≡ asks a b now
  pub waits : (h : Row Pin) → Contains (s.elements a).pending.rows h → (y : ℕ) → h.1.item.stage ≡ Waits (Inner b) y → y ≤ asks a b now
  pub next : asks a b now < id_most → fresh_id (Inner b) (asks a b now) (s.elements a).pending.rows ≡ suc (asks a b now)

-- In every state of a run.
abbrev pub IdsCountIn : Codec → NetworkParts → List Entry → Plant → Type 0
IdsCountIn c n es s = (a b : As) → a ≢ parent_as → AreCounted (deeds_of c n es) s a b

abbrev pub IdsCount : Type 0
IdsCount = InShortRuns IdsCountIn

-- No two requests that an element sends to a neighbour have one id.
abbrev pub ElementIdsDifferIn : Codec → NetworkParts → List Entry → Plant → Type 0
ElementIdsDifferIn c n es s =
    (m m' : Transcript) → Within m (deeds_of c n es) → Within m' (deeds_of c n es) → (a b : As) → a ≢ parent_as → (x : ℕ) (w w' : Wanted) (t t' : Addr) (rest rest' : List As) →
    SentIn m a (Inner b) (request_message x w t rest) → SentIn m' a (Inner b) (request_message x w' t' rest') →
    (m ≡ m') × (request_message x w t rest ≡ request_message x w' t' rest')

abbrev pub ElementIdsDiffer : Type 0
ElementIdsDiffer = InShortRuns ElementIdsDifferIn
