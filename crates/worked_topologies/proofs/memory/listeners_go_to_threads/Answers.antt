use denote.Param.Send.{sendable}
use Rattle.worked_topologies.proofs.Crossing.{listener_send}
use Rattle.worked_topologies.proofs.memory.listeners_go_to_threads.Goals as goal

pub goes_to_a_thread-requires-send-T : goal.goes_to_a_thread-requires-send-T
goes_to_a_thread-requires-send-T g c κs = search (listener_send, sendable)
