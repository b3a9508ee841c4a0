use denote.Param.Send.{sendable}
use Rattle.plant_network.proofs.Crossing.{act_send, plant_send, turn_send}
use Rattle.worked_parts.proofs.crossing.a_network_goes_to_threads.Goals as goal

pub goes_to_a_thread-requires-send-T : goal.goes_to_a_thread-requires-send-T
goes_to_a_thread-requires-send-T c κs = search (plant_send, sendable)

pub goes_to_a_thread-requires-2-send-T : goal.goes_to_a_thread-requires-2-send-T
goes_to_a_thread-requires-2-send-T c κs = search (act_send, sendable)

pub goes_to_a_thread-requires-3-send-T : goal.goes_to_a_thread-requires-3-send-T
goes_to_a_thread-requires-3-send-T c κs = search (turn_send, sendable)
