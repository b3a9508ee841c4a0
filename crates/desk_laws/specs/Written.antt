-- What a session writes over its link is a prefix of what the run of the network put for that peer.
use Rattle.std.specs.Prelude.{◌≡◌, ◌⊎◌, ℕ, true, List, [], ◌++◌, map, Contains, Some}
use Rattle.dom_edge.specs.Heeding.{Sides}
use Rattle.dom_edge.specs.Streams.{Writing}
use Rattle.pcep_messages.specs.declared.message.Message.TheVariants as messages
use Rattle.plant_text.specs.Settings.{class_of}
use Rattle.plant_network.specs.plant_model.Types.{NetworkParts, Outside, Reply}
use Rattle.plant_network.specs.plant_model.Element.{is_client}
use Rattle.plant_network.specs.plant_model.Laws.{IsNetwork}
use Rattle.plant_network.specs.plant_model.Plant.{Entry, Plant, Run, deeds_of}
use Rattle.plant_network.specs.plant_model.RealWire.{wire}
use Rattle.plant_network.specs.plant_laws.About.{IsPathAnswer, IsShort}
use Rattle.plant_network.specs.Histories.{done_by, events_of}
use Rattle.run_laws.specs.Outlets.{Outlet, bytes_of, outlet}
use Rattle.run_laws.specs.Received.{IsRight, IsStreamOf}
use Rattle.server_loops.specs.Desks.{Call}
use Rattle.server_loops.specs.Sessions.{OverLink}
use Rattle.server_loops.specs.declared.sessions.Ended.{Ended}
use Rattle.turn_desk.specs.Desks.{Stand, desked_of}
use Rattle.desk_laws.specs.Connections.{IsAlone, at_peer}

-- the bytes were written meanwhile, where that is told
abbrev pub Wrote : Writing → Writing → List ℕ → Type 0
Wrote old new bytes = (front : List ℕ) × (old.written ≡ Some front) × (new.written ≡ Some (front ++ bytes))

-- By some moment of the run the messages `connection.put` had been put for the peer since its connection was opened, and the bytes are a
-- first part of them. In a run in which no id comes round they are read as just these messages; and where the peer is a client, each of
-- them that answers a request for a path is right: a path is feasible and least, and where none is told to be found, there is none.
pub record IsPutFor (n : NetworkParts) (es : List Entry) (i : ℕ) (bytes : List ℕ) : Type 0 where
  pub later : List Entry
  pub moment : List Entry
  pub is : es ≡ later ++ moment
  pub connection : Outlet
  pub is_open : outlet i moment ≡ Some connection
  pub rest : List ℕ
  pub front : bytes_of wire connection.put ≡ bytes ++ rest
  pub read : IsNetwork n → IsShort (deeds_of wire n moment) → IsStreamOf connection.put (bytes_of wire connection.put)
  pub right : IsNetwork n → IsShort (deeds_of wire n moment) → is_client (class_of n (Outside i)) ≡ true → (replies : List Reply) → Contains connection.put (messages.PcRep replies) → (r : Reply) → Contains replies r → IsPathAnswer r → IsRight n (deeds_of wire n moment) i r

-- Over a history that is a run, and behind which nothing had been done at the connections of the peer: of a session at a desk that alone
-- does anything there, what is written over the link is a first part of what the run put for the peer.
abbrev pub WrittenWasPut : Type 0
WrittenWasPut =
    (n : NetworkParts) (newer older : List Entry) (t : Plant) → Run wire n (newer ++ older) t → (i : ℕ) → at_peer i (map done_by older) ≡ [] →
    (s : Stand) → map done_by newer ≡ events_of s.seen → IsAlone i s →
    (front made back : List Call) → (desked_of s).calls ≡ front ++ (made ++ back) →
    (holder turns : ℕ) (end : Ended) (before after : Sides) → OverLink i holder turns end made before after →
    (bytes : List ℕ) → Wrote before.writing after.writing bytes → (bytes ≡ []) ⊎ IsPutFor n (newer ++ older) i bytes
