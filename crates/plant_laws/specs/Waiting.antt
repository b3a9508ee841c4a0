-- A request that waits was sent on: in the moment that delivered it, under the id for which it waits, along the rest of its
-- sequence, to the peer that is asked for its next domain, or to the parent where it has none.
use Rattle.std.specs.Prelude.{◌≡◌, ◌⊎◌, ℕ, false, List, [], ◌∷◌, Contains, Some, Bool}
use Rattle.plant_model.specs.Types.{As, Peer, NetworkParts}
use Rattle.request_table.specs.Pending.{same_key}
use Rattle.plant_model.specs.declared.route.Route.{Route}
use Rattle.plant_model.specs.Names.{the_parent, same_id}
use Rattle.plant_model.specs.Wire.{Codec}
use Rattle.plant_model.specs.Writing.{request_message}
use Rattle.plant_model.specs.Routes.{toward}
use Rattle.plant_model.specs.Settings.{place}
use Rattle.plant_model.specs.Element.{Waits, Row, Stage, Ready}
use Rattle.plant_model.specs.Plant.{Pin, Plant, Entry, deeds_of}
use Rattle.plant_laws.specs.Transcript.{Transcript, opened, SentIn}
use Rattle.plant_laws.specs.Runs.{InRuns}

-- to the parent without a sequence, or to the peer that is asked for the next domain
abbrev pub GoesOn : List Route → List As → List As → Peer → Type 0
GoesOn routes sequence rest b =
    ((sequence ≡ []) × (rest ≡ []) × (b ≡ the_parent))
    ⊎ ((own : As) × (next : As) × (more : List As) × (sequence ≡ own ∷ rest) × (rest ≡ next ∷ more) × (b ≡ toward next routes))

pub record WasSentOn (c : Codec) (n : NetworkParts) (now : Transcript) (d : As) (h : Row Pin) (b : Peer) (y : ℕ) : Type 0 where
  pub at : Transcript
  pub is_open : opened c d h.1.key.peer h.1.key.id now ≡ Some at
  pub rest : List As
  pub sent : SentIn at d b (request_message y h.1.item.wanted h.1.item.wanted.target rest)
  pub goes : GoesOn (place n d).routes h.1.item.sequence rest b

abbrev pub WaitsAreSentIn : Codec → NetworkParts → List Entry → Plant → Type 0
WaitsAreSentIn c n es s = (d : As) (h : Row Pin) → Contains (s.elements d).pending.rows h → (b : Peer) (y : ℕ) → h.1.item.stage ≡ Waits b y → WasSentOn c n (deeds_of c n es) d h b y

abbrev pub WaitsAreSent : Type 0
WaitsAreSent = InRuns WaitsAreSentIn

-- two stages wait for the answer to one id
abbrev pub wait_alike : Stage → Stage → Bool
wait_alike (Waits p x) (Waits q y) = same_id p x q y
wait_alike (Waits p x) (Ready branches) = false
wait_alike (Ready branches) stage = false

-- No two requests of an element wait for the answer to one id of a peer, also where ids wrapped around.
abbrev pub WaitsApartIn : Codec → NetworkParts → List Entry → Plant → Type 0
WaitsApartIn c n es s =
    (d : As) (h g : Row Pin) → Contains (s.elements d).pending.rows h → Contains (s.elements d).pending.rows g →
    same_key h.1.key g.1.key ≡ false → wait_alike h.1.item.stage g.1.item.stage ≡ false

abbrev pub WaitsApart : Type 0
WaitsApart = InRuns WaitsApartIn
