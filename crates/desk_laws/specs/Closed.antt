-- What a session writes to a closed peer is a first part of what the network without topologies says for that peer.
use Rattle.std.specs.Prelude.{◌≡◌, ℕ, true, cond, List, [], ◌∷◌, ◌++◌, map}
use Rattle.request_table.specs.Pending.{same_peer}
use Rattle.plant_network.specs.plant_model.Types.{NetworkParts, Outside}
use Rattle.plant_network.specs.plant_model.declared.event.BlindEvent.{BlindEvent}
use Rattle.plant_network.specs.plant_model.Blind.{BlindSays, BlindState, Drained, Heard, Message, is_closed}
use Rattle.plant_network.specs.plant_model.Plant.{Entry, Plant, Run}
use Rattle.plant_network.specs.plant_model.RealWire.{wire}
use Rattle.plant_network.specs.plant_laws.Worlds.{DisclosedRun}
use Rattle.desk_laws.specs.Written.{IsPutFor}

-- the messages to an outside peer, in order
abbrev pub heard_by : ℕ → List Heard → List (List ℕ)
heard_by i [] = []
heard_by i (Message x ∷ hs) = cond (same_peer x.to (Outside i)) (x.bytes ∷ heard_by i hs) (heard_by i hs)
heard_by i (Drained j bytes ∷ hs) = heard_by i hs

-- The network without topologies says this on the trace; and what it says for the peer ends with these messages.
pub record EndsBlindly (n : NetworkParts) (trace : List BlindEvent) (i : ℕ) (messages : List (List ℕ)) : Type 0 where
  pub said : List Heard
  pub left : BlindState
  pub says : BlindSays wire n trace said left
  pub before : List (List ℕ)
  pub ends : heard_by i said ≡ before ++ messages

-- The bytes are a first part of what had been put for the peer by some moment of the run. On whatever the run had disclosed by that
-- moment, the network without topologies says the same messages for the peer.
abbrev pub IsSaidBlindly : (n : NetworkParts) (es : List Entry) (i : ℕ) (bytes : List ℕ) → IsPutFor n es i bytes → Type 0
IsSaidBlindly n es i bytes put = (trace : List BlindEvent) (s : Plant) → DisclosedRun wire n put.moment trace s → EndsBlindly n trace i (map (λ m. wire.text m) put.connection.put)

-- In a run what is put for a closed peer is said blindly.
abbrev pub PutIsSaidBlindly : Type 0
PutIsSaidBlindly =
    (n : NetworkParts) (es : List Entry) (t : Plant) → Run wire n es t → (i : ℕ) → is_closed n (Outside i) ≡ true → (bytes : List ℕ) → (put : IsPutFor n es i bytes) → IsSaidBlindly n es i bytes put
