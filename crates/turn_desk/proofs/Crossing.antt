-- A desk, and a bench over one, may go to another thread where its handle may.
use denote.RattleType.{RattleType}
use denote.Param.Send.{IsSend, IsSync, sendable}
use Rattle.std.proofs.Crossing.{Arc-send, crosses}
use Rattle.core.proofs.once.OnceLock.TheSendSync as once
use Rattle.dom_edge.specs.contracts.bell.Bell as Bell
use Rattle.dom_edge.specs.contracts.chime.Chime as Chime
use Rattle.plant_lock.proofs.Crossing.{turn_seat_field_send, turnstile_send, turnstile_sync}
use Rattle.kept_plant.proofs.Crossing.{kept_send}
use Rattle.turn_desk.specs.contracts.bells.Bells as Bells
use Rattle.turn_desk.specs.contracts.circle.Circle as Circle
use Rattle.turn_desk.specs.contracts.desk.TurnDesk as TurnDesk
use Rattle.turn_desk.specs.contracts.workbench.WorkBench as WorkBench

-- ---- the board

bell_send : IsSend Bell.the_row
bell_send = search (sendable, crosses) depth 60 fits 30000

bell_sync : IsSync Bell.the_row
bell_sync = search (sendable, crosses) depth 60 fits 30000

chime_send : IsSend Chime.the_row
chime_send = search (sendable, crosses) depth 60 fits 30000

chime_sync : IsSync Chime.the_row
chime_sync = search (sendable, crosses) depth 60 fits 30000

bells_send : IsSend Bells.the_row
bells_send = search (once.the_send, bell_send, chime_send, sendable, crosses) depth 60 fits 30000

bells_sync : IsSync Bells.the_row
bells_sync = search (once.the_sync, bell_send, bell_sync, chime_sync, sendable, crosses) depth 60 fits 30000

-- ---- desks and benches

circle_field_send : IsSend Circle.the_field.row
circle_field_send = search (crosses, sendable) depth 60 fits 30000

pub turn_desk_send : (R : RattleType) → IsSend R → IsSend (TurnDesk.the_row R)
turn_desk_send R r = search (turn_seat_field_send, turnstile_send, turnstile_sync, kept_send, bells_send, bells_sync, Arc-send, crosses, sendable) depth 60 fits 30000

-- the same where one is a field of another type
pub turn_desk_field_send : (R : RattleType) → IsSend R → IsSend (TurnDesk.the_field R).row
turn_desk_field_send R r = search (turn_seat_field_send, turnstile_send, turnstile_sync, kept_send, bells_send, bells_sync, Arc-send, crosses, sendable) depth 60 fits 30000

pub work_bench_send : (R : RattleType) → IsSend R → IsSend (WorkBench.the_row R)
work_bench_send R r = let desk = turn_desk_field_send R r in search (circle_field_send, crosses, sendable) depth 60 fits 30000

pub work_bench_field_send : (R : RattleType) → IsSend R → IsSend (WorkBench.the_field R).row
work_bench_field_send R r = let desk = turn_desk_field_send R r in search (circle_field_send, crosses, sendable) depth 60 fits 30000
