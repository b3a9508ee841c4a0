use denote.Param.Send.{sendable}
use Rattle.std.proofs.Crossing.{crosses}
use Rattle.pce_main.proofs.Crossing.{port_send}
use Rattle.pce_main.proofs.server.serve_network.Goals as goal

pub serve-requires-send-Q-Port : goal.serve-requires-send-Q-Port
serve-requires-send-Q-Port g c κs = search (port_send, sendable, crosses) depth 60 fits 30000
