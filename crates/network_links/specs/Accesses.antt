-- The effects of calls on one outside peer.
use Rattle.std.specs.Prelude.{◌≡◌, ◌==◌, ℕ, Bool, true, false, [], Option, Some, None, Result, Err, IfOk, OnOk, OnErr}
use Rattle.plant_model.specs.Types.{NoMemory as Want, Tick}
use Rattle.pcep_framing.specs.Frames.{joined}
use Rattle.plant_model.specs.declared.outcome.Refused.{Refused}
use Rattle.plant_model.specs.declared.outcome.Refused.TheVariants.{NoSuchPeer, NotHolder, NoMemory}
use Rattle.plant_model.specs.Wire.{Bytes}
use Rattle.plant_model.specs.State.{Connection}
use Rattle.plant_model.specs.Deeds.{on_connection, with_more}
use Rattle.plant_model.specs.Events.{is_down, drained}
use Rattle.network_links.specs.declared.peers.Drained.{Drained}
use Rattle.network_links.specs.Ends.{fed_while_up}
use Rattle.network_links.specs.Flow.{just_opened, no_room, out_of}
use Rattle.network_links.specs.Peers.{Guest}
use Rattle.network_links.specs.QuietSides.{is_quiet_peer, ticked_quietly}
use Rattle.network_links.specs.Rooms.{Queue, KeepsRoom, Grows, Spends, Frees, queue}

-- its connection changes, if it is open
abbrev pub on_guest : (Connection → Connection) → Guest → Guest
on_guest f g = record g { access = on_connection f g.access }

abbrev pub Goes : (Connection → Connection) → Guest → Guest → Type 0
Goes f old new = new ≡ on_guest f old

abbrev pub Shuts : Guest → Guest → Type 0
Shuts old new = new ≡ record { access = record { opened = old.access.opened; connection = None }; room = no_room }

-- ---- opened, and room

abbrev pub queue_to : Guest → Queue
queue_to g = queue (out_of g.access.connection) g.room

-- its queue keeps room for what its session says of itself
pub record ConnectsGuest (holder : ℕ) (now : Tick) (r : Result (Unit {0}) Want) (old new : Guest) : Type 0 where
  pub ok : OnOk r (new.access ≡ just_opened holder now old.access)
  pub room : OnOk r (KeepsRoom 0 0 (queue_to new))
  pub err : OnErr r (new ≡ old)

-- its room is no less
pub record GrowsGuest (messages bytes : ℕ) (r : Result (Unit {0}) Want) (old new : Guest) : Type 0 where
  pub same : new.access ≡ old.access
  pub room : Grows old.room new.room
  pub ok : OnOk r (KeepsRoom messages bytes (queue_to new))

pub record SendsGuest (message : Bytes) (old new : Guest) : Type 0 where
  pub kept : new.access ≡ on_connection (with_more message) old.access
  pub room : Spends message old.room new.room

-- whether there was nothing to say or to do, and what the peer is then
pub record TicksGuest (now : Tick) (quiet : Bool) (old new : Guest) : Type 0 where
  pub answer : quiet ≡ is_quiet_peer now old.access.connection
  pub is : Goes (ticked_quietly now) old new

-- ---- a feed

-- where its session is over nothing is taken, so memory cannot run out
pub record FeedsOpen (piece : Bytes) (x : Connection) (r : Result (Unit {0}) Refused) (old new : Guest) : Type 0 where
  pub ok : OnOk r (Goes (fed_while_up piece) old new)
  pub err : OnErr r ((r ≡ Err NoMemory) × (new ≡ old))
  pub over : OnErr r (is_down x.session.phase ≡ false)

abbrev pub FeedsConnection : Bytes → Option Connection → Result (Unit {0}) Refused → Guest → Guest → Type 0
FeedsConnection piece None r old new = (r ≡ Err NoSuchPeer) × (new ≡ old)
FeedsConnection piece (Some x) r old new = FeedsOpen piece x r old new

abbrev pub FeedsGuest : Bytes → Result (Unit {0}) Refused → Guest → Guest → Type 0
FeedsGuest piece r old new = FeedsConnection piece old.access.connection r old new

-- ---- a drain

abbrev pub IsDrained : Connection → Result Drained Refused → Type 0
IsDrained x r = IfOk r (λ d. d ≡ record { bytes = joined x.out; ended = is_down x.session.phase })

pub record DrainsOpen (x : Connection) (r : Result Drained Refused) (old new : Guest) : Type 0 where
  pub bytes : IsDrained x r
  pub ok : OnOk r (new.access ≡ on_connection drained old.access)
  pub room : OnOk r (Frees (queue x.out old.room) (queue [] new.room))
  pub err : OnErr r ((r ≡ Err NoMemory) × (new ≡ old))

abbrev pub DrainsHeld : Bool → Connection → Result Drained Refused → Guest → Guest → Type 0
DrainsHeld false x r old new = (r ≡ Err (NotHolder x.holder)) × (new ≡ old)
DrainsHeld true x r old new = DrainsOpen x r old new

abbrev pub DrainsConnection : ℕ → Option Connection → Result Drained Refused → Guest → Guest → Type 0
DrainsConnection holder None r old new = (r ≡ Err NoSuchPeer) × (new ≡ old)
DrainsConnection holder (Some x) r old new = DrainsHeld (x.holder == holder) x r old new

abbrev pub DrainsGuest : ℕ → Result Drained Refused → Guest → Guest → Type 0
DrainsGuest holder r old new = DrainsConnection holder old.access.connection r old new
