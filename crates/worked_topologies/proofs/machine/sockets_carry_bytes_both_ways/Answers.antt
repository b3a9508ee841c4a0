use denote.Param.Send.{sendable}
use Rattle.std.proofs.Crossing.{crosses}
use Rattle.worked_topologies.proofs.Crossing.{port_send}
use Rattle.worked_topologies.proofs.machine.sockets_carry_bytes_both_ways.Goals as goal

pub goes_to_a_thread-listener-requires-send-T : goal.goes_to_a_thread-listener-requires-send-T
goes_to_a_thread-listener-requires-send-T g c κs = search (port_send, sendable, crosses) depth 60 fits 30000
