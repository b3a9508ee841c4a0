-- The histories of a server's lock are runs of its network, and its sessions write first parts of what was put for their peers.
use Rattle.std.specs.Prelude.{◌≡◌, ◌⊎◌, ℕ, true, List, [], ◌++◌, map}
use Rattle.dom_edge.specs.Heeding.{Sides}
use Rattle.plant_network.specs.Histories.{done_by, events_of}
use Rattle.plant_network.specs.plant_model.Blind.{is_closed}
use Rattle.plant_network.specs.plant_model.Plant.{Entry, Plant, Run}
use Rattle.plant_network.specs.plant_model.RealWire.{wire}
use Rattle.plant_network.specs.plant_model.Types.{Outside}
use Rattle.plant_text.specs.declared.settings.NetworkParts.{NetworkParts}
use Rattle.server_loops.specs.Desks.{Call}
use Rattle.server_loops.specs.Sessions.{OverLink}
use Rattle.server_loops.specs.declared.sessions.Ended.{Ended}
use Rattle.turn_desk.specs.Desks.{Stand, desked_of}
use Rattle.desk_laws.specs.Closed.{IsSaidBlindly}
use Rattle.desk_laws.specs.Connections.{IsAlone}
use Rattle.desk_laws.specs.Written.{IsPutFor, Wrote}

-- What the desk has seen is a run of the network, behind these older entries. What a session at this desk writes over its link is a
-- first part of what that run put for the peer, where nobody else opens, shuts or drains its connection. And what it put for a closed peer
-- is what the network without topologies says for that peer.
pub record IsRun (n : NetworkParts) (older : List Entry) (s : Stand) : Type 0 where
  pub newer : List Entry
  pub are_turns : map done_by newer ≡ events_of s.seen
  pub left : Plant
  pub run : Run wire n (newer ++ older) left
  pub written : (i : ℕ) → IsAlone i s → (front made back : List Call) → (desked_of s).calls ≡ front ++ (made ++ back) → (holder turns : ℕ) (end : Ended) (before after : Sides) → OverLink i holder turns end made before after →
      (bytes : List ℕ) → Wrote before.writing after.writing bytes → (bytes ≡ []) ⊎ IsPutFor n (newer ++ older) i bytes
  pub closed : (i : ℕ) → is_closed n (Outside i) ≡ true → (bytes : List ℕ) → (put : IsPutFor n (newer ++ older) i bytes) → IsSaidBlindly n (newer ++ older) i bytes put
