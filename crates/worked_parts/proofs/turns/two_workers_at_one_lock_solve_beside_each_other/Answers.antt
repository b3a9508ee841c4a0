use denote.RattleType.{RattleType}
use denote.Param.Send.{IsSend, sendable}
use Rattle.std.proofs.Crossing.{crosses}
use Rattle.turn_desk.proofs.Crossing.{turn_desk_field_send, turn_desk_send}
use Rattle.worked_parts.specs.contracts.turns.Door as Door
use Rattle.worked_parts.proofs.turns.two_workers_at_one_lock_solve_beside_each_other.Goals as goal

door_send : (R : RattleType) → IsSend R → IsSend (Door.the_row R)
door_send R r = search (turn_desk_field_send, sendable, crosses) depth 60 fits 30000

pub join-first-requires-send-F : goal.join-first-requires-send-F
join-first-requires-send-F g c κs = search (turn_desk_send, door_send, sendable, crosses) depth 60 fits 30000

pub join-first-requires-send-A : goal.join-first-requires-send-A
join-first-requires-send-A g c κs = search (turn_desk_send, sendable, crosses) depth 60 fits 30000
