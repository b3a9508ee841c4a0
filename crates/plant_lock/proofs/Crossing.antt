-- A seat and a turnstile may go to another thread where the value may.
use denote.RattleType.{RattleType}
use denote.Param.Send.{IsSend, IsSync, sendable}
use Rattle.std.proofs.Crossing.{crosses}
use Rattle.atomic_table.specs.contracts.shared.Seat as Seat
use Rattle.atomic_table.proofs.shared.Seat.TheSendSync as seat
use Rattle.atomic_table.proofs.shared.Shared.TheSendSync as shared
use Rattle.atomic_table.proofs.send_lease.SendLease.TheSendSync as lease
use Rattle.plant_lock.specs.contracts.view.Slot as Slot
use Rattle.plant_lock.specs.contracts.view.View as View
use Rattle.plant_lock.specs.contracts.seat.TurnSeat as TurnSeat
use Rattle.plant_lock.specs.contracts.seat.Turnstile as Turnstile
use Rattle.plant_lock.specs.declared.turned.Turned.{Ghosts}

pub slot_send : (T A B : RattleType) → IsSend T → IsSend (Slot.the_row T A B)
slot_send T A B s = search (sendable, crosses) depth 20

inner_send : (T A B : RattleType) → IsSend T → IsSend (Seat.the_row (Slot.the_row T A B) (View.the_row T A B))
inner_send T A B s = seat.the_send (Slot.the_row T A B) (View.the_row T A B) (slot_send T A B s)

pub turn_seat_send : (T A B : RattleType) (g : Ghosts T.Denot A.Denot B.Denot) → IsSend T → IsSend (TurnSeat.the_row T A B g)
turn_seat_send T A B g s = search (sendable, crosses, inner_send) depth 20

-- the same where the seat is a field of another struct
pub turn_seat_field_send : (T A B : RattleType) (g : Ghosts T.Denot A.Denot B.Denot) → IsSend T → IsSend (TurnSeat.the_field T A B g).row
turn_seat_field_send T A B g s = search (sendable, crosses, inner_send) depth 20

pub turnstile_sync : (T A B : RattleType) (g : Ghosts T.Denot A.Denot B.Denot) → IsSend T → IsSync (Turnstile.the_row T A B g)
turnstile_sync T A B g s = let k = slot_send T A B s in search (sendable, crosses, shared.the_sync, lease.the_sync) depth 30

pub turnstile_send : (T A B : RattleType) (g : Ghosts T.Denot A.Denot B.Denot) → IsSend T → IsSend (Turnstile.the_row T A B g)
turnstile_send T A B g s = let k = slot_send T A B s in search (sendable, crosses, shared.the_send, lease.the_send) depth 30

pub ruleset crosses_turns = (turn_seat_send, turn_seat_field_send, turnstile_sync, turnstile_send)
