use denote.Param.Send.{sendable}
use Rattle.turn_desk.proofs.Crossing.{turn_desk_send, work_bench_send}
use Rattle.worked_parts.proofs.crossing.desk_goes.Goals as goal

pub goes_to_a_thread-requires-send-T : goal.goes_to_a_thread-requires-send-T
goes_to_a_thread-requires-send-T g c κs = search (turn_desk_send, sendable)

pub goes_to_a_thread-requires-2-send-T : goal.goes_to_a_thread-requires-2-send-T
goes_to_a_thread-requires-2-send-T g c κs = search (work_bench_send, sendable)
