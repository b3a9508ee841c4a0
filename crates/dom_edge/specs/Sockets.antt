-- What the system's sockets report and count.
use Rattle.std.specs.Prelude.{◌≡◌, ◌⊎◌, ℕ, List, [], map, None}
use Rattle.std.specs.declared.option.Option.{Option}
use Rattle.std.specs.declared.net.ip_addr.IpAddr.{IpAddr}
use Rattle.std.specs.declared.net.ip_addr.IpAddr.TheVariants as ip
use Rattle.std.specs.declared.net.socket_addr.SocketAddr.{SocketAddr}
use Rattle.std.specs.Net.Addr.{ipv4_bits, ipv6_bits, IsIpv4OfBits, IsIpv6OfBits, IsUnspecifiedV4, IsUnspecifiedV6, IsV4And, IsV6And}
use Rattle.std.specs.Net.Socket.{socket_ip, socket_port}
use Rattle.dom_base.specs.declared.addr.Addr.{Addr}
use Rattle.dom_base.specs.declared.addr.Addr.TheVariants.{V4, V6}
use Rattle.dom_edge.specs.declared.ports.Opened.{Opened}
use Rattle.dom_edge.specs.declared.ports.Opened.TheVariants as opened
use Rattle.dom_edge.specs.Heeding.{Sides, sides}
use Rattle.dom_edge.specs.Streams.{Reading, Writing}

-- an address of the system as a number of its kind
abbrev pub addr_of : IpAddr → Addr
addr_of (ip.V4 a) = V4 (ipv4_bits a)
addr_of (ip.V6 a) = V6 (ipv6_bits a)

-- the address as the system takes it
abbrev pub IsIpOf : Addr → IpAddr → Type 0
IsIpOf (V4 n) (ip.V4 a) = IsIpv4OfBits a n
IsIpOf (V6 n) (ip.V6 a) = IsIpv6OfBits a n
IsIpOf (V4 n) (ip.V6 a) = ⊥
IsIpOf (V6 n) (ip.V4 a) = ⊥

-- a connection: its stream, where it comes from, and what it counts of each side
pub record SocketState (Stream : Type 0) : Type 0 where
  pub stream : Stream
  pub from : Option Addr
  pub faults : ℕ
  pub quiets : ℕ
  pub ends : ℕ
  pub write_faults : ℕ

-- nothing was read or written yet
abbrev pub new_socket : {Stream : Type 0} → Stream → Option Addr → SocketState Stream
new_socket stream from = record { stream = stream; from = from; faults = 0; quiets = 0; ends = 0; write_faults = 0 }

-- all but the stream is as it was
abbrev pub SameCounts : {Stream : Type 0} → SocketState Stream → SocketState Stream → Type 0
SameCounts {Stream} old new = new ≡ record { stream = new.stream; from = old.from; faults = old.faults; quiets = old.quiets; ends = old.ends; write_faults = old.write_faults }

-- As sides of a wire they tell nothing of content: no clause of a stream says that a read leaves what was written, nor a write what is read.
abbrev pub socket_reading : {Stream : Type 0} → SocketState Stream → Reading
socket_reading s = record { left = None; faults = s.faults; quiets = s.quiets; ends = s.ends }

abbrev pub socket_writing : {Stream : Type 0} → SocketState Stream → Writing
socket_writing s = record { written = None; faults = s.write_faults }

-- the sides of connections
abbrev pub socket_sides : {Stream : Type 0} → List (SocketState Stream) → List Sides
socket_sides {Stream} links = map (λ (link : SocketState Stream). sides (socket_reading link) (socket_writing link)) links

-- a listener: the sides of the connections that it handed out, as they were then; the address that the system was asked for, at which it
-- listens or which it dials; whom it heeds and whom it dials; and what it counts
pub record PortState : Type 0 where
  pub handed : List Sides
  pub at : SocketAddr
  pub heeds : Option Addr
  pub dialled_to : Option Addr
  pub faults : ℕ
  pub quiets : ℕ

-- nobody was handed out yet
abbrev pub new_port : SocketAddr → Option Addr → Option Addr → PortState
new_port at heeds dialled_to = record { handed = []; at = at; heeds = heeds; dialled_to = dialled_to; faults = 0; quiets = 0 }

-- real ports: the address of the machine at which they are, what they count, and the port at which a call last failed
pub record PortsCounts : Type 0 where
  pub address : IpAddr
  pub calls : ℕ
  pub faults : ℕ
  pub failed_at : ℕ

-- that address, or where it is that of all of IPv6, on a machine without, that of all of IPv4
abbrev pub IsBoundBy : IpAddr → IpAddr → Type 0
IsBoundBy asked bound = (addr_of bound ≡ addr_of asked) ⊎ (IsV6And asked IsUnspecifiedV6 × IsV4And bound IsUnspecifiedV4)

-- the system was asked to listen at this address of the machine, and at this port
abbrev pub IsBoundAt : IpAddr → ℕ → SocketAddr → Type 0
IsBoundAt address port at = IsBoundBy address (socket_ip at) × (socket_port at ≡ port)

-- the system is asked for this port of that machine
abbrev pub IsDialledAt : Addr → ℕ → SocketAddr → Type 0
IsDialledAt to port at = IsIpOf to (socket_ip at) × (socket_port at ≡ port)

-- what holds of the address at which what was handed out was opened
abbrev pub IfOpened : {P : Type 0} → (P → Type 0) → Opened P → Type 0
IfOpened So (opened.Port listener) = So listener
IfOpened So opened.Failed = Unit {0}
