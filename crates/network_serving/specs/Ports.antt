-- Peers that a server could not tell apart, and the ports that are opened in their order.
use Rattle.std.specs.Prelude.{◌≡◌, ◌⊎◌, ◌<◌, ℕ, Bool, true, false, List, [], ◌++◌, codes, map, slice_get, take, Option, Some, None, IfSome, replicate}
use Rattle.std.specs.List.{list_any}
use Rattle.dom_base.specs.declared.addr.Addr.{Addr}
use Rattle.plant_text.specs.declared.fault.NetFault.{NetFault}
use Rattle.plant_text.specs.declared.fault.NetFault.TheVariants.{Duplicate}
use Rattle.plant_text.specs.declared.settings.NetworkParts.{NetworkParts}
use Rattle.plant_text.specs.declared.settings.PeerRow.{PeerRow}
use Rattle.plant_text.specs.declared.settings.Comes.{Comes}
use Rattle.plant_text.specs.declared.settings.Comes.TheVariants.{Anyone, From, Dialled}
use Rattle.network_files.specs.Meeting.{are_alike, comes_to}
use Rattle.network_serving.specs.declared.duties.TheConstants.{WATCHERS}
use Rattle.network_serving.specs.declared.served.Served.{Served}
use Rattle.network_serving.specs.declared.served.Served.TheVariants as served

-- whom a listener for such a peer heeds, and whom it dials
abbrev pub heeded : Comes → Option Addr
heeded Anyone = None
heeded (From a) = Some a
heeded (Dialled a) = Some a

abbrev pub dialled : Comes → Option Addr
dialled Anyone = None
dialled (From a) = None
dialled (Dialled a) = Some a

-- one of these peers connects at that port
abbrev pub has_port : ℕ → List PeerRow → Bool
has_port port peers = list_any (comes_to port) peers

abbrev pub repeats_in : List PeerRow → Option PeerRow → Bool
repeats_in before None = false
repeats_in before (Some row) = list_any (λ (p : PeerRow). are_alike p row) before

-- the peer at this place is like an earlier one
abbrev pub repeats : List PeerRow → ℕ → Bool
repeats peers k = repeats_in (take k peers) (slice_get peers k)

abbrev pub IsFirstRepeat : List PeerRow → ℕ → Type 0
IsFirstRepeat peers k = (repeats peers k ≡ true) × ((j : ℕ) → j < k → repeats peers j ≡ false)

-- no two peers are alike, and none connects at the port of watchers
pub record AreApart (n : NetworkParts) : Type 0 where
  pub peers : (k : ℕ) → repeats n.peers k ≡ false
  pub watch : IfSome n.watch (λ port. has_port port n.peers ≡ false)

-- the first peer that is like an earlier one; or where there is none, a peer connects at the port of watchers
abbrev pub IsPortFault : NetworkParts → NetFault → Type 0
IsPortFault n (Duplicate table row) =
    ((table ≡ codes "peer") × IsFirstRepeat n.peers row)
    ⊎ ((table ≡ codes "watch") × (row ≡ 0) × ((k : ℕ) → repeats n.peers k ≡ false) × ((port : ℕ) × (n.watch ≡ Some port) × (has_port port n.peers ≡ true)))
IsPortFault n fault = ⊥

-- the settings of that file are refused for it
abbrev pub IsRefusedPort : List ℕ → NetworkParts → Served → Type 0
IsRefusedPort name n (served.BadNetwork file line fault) = (file ≡ name) × (line ≡ 0) × IsPortFault n fault
IsRefusedPort name n served.NoMemory = Unit {0}
IsRefusedPort name n s = ⊥

-- the port of watchers, once for each who answers them
abbrev pub watch_ports : Option ℕ → List ℕ
watch_ports None = []
watch_ports (Some port) = replicate WATCHERS port

-- the ports in the order in which they are opened: those of the peers, of one that is dialled the far one, and that of watchers
abbrev pub ports_of : NetworkParts → List ℕ
ports_of n = map (λ (row : PeerRow). row.port) n.peers ++ watch_ports n.watch
