-- Peers that a server could not tell apart: both come to one port, and not each from an address of its own; or both are dialled at one address and port.
use Rattle.std.specs.Prelude.{ℕ, ◌==◌, ◌&&◌, Bool, true, false}
use Rattle.dom_base.specs.declared.addr.Addr.{Addr}
use Rattle.dom_base.specs.AddrOrder.{rank}
use Rattle.dom_edge.specs.Heeding.{canonical}
use Rattle.plant_text.specs.declared.settings.PeerRow.{PeerRow}
use Rattle.plant_text.specs.declared.settings.Comes.{Comes}
use Rattle.plant_text.specs.declared.settings.Comes.TheVariants.{Anyone, From, Dialled}

-- one address of the machine, also where it is written as one of IPv6 that holds it
abbrev pub is_one : Addr → Addr → Bool
is_one a b = rank (canonical a) == rank (canonical b)

-- at one port: both connect, and not each from an address of its own; or both are dialled at one address
abbrev pub share : Comes → Comes → Bool
share (Dialled a) (Dialled b) = is_one a b
share (Dialled a) Anyone = false
share (Dialled a) (From b) = false
share Anyone (Dialled b) = false
share (From a) (Dialled b) = false
share (From a) (From b) = is_one a b
share Anyone Anyone = true
share Anyone (From b) = true
share (From a) Anyone = true

abbrev pub are_alike : PeerRow → PeerRow → Bool
are_alike p q = (p.port == q.port) && share p.comes q.comes

-- a peer that connects, at that port
abbrev pub comes_to : ℕ → PeerRow → Bool
comes_to port row = (row.port == port) && share row.comes Anyone
