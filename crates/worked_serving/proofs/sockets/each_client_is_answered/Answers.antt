use denote.Param.Send.{sendable}
use Rattle.std.proofs.Crossing.{crosses}
use Rattle.worked_serving.proofs.Crossing.{port_send}
use Rattle.worked_serving.proofs.sockets.each_client_is_answered.Goals as goal

pub serve-served-requires-send-Q-Port : goal.serve-served-requires-send-Q-Port
serve-served-requires-send-Q-Port g c κs = search (port_send, sendable, crosses) depth 60 fits 30000
