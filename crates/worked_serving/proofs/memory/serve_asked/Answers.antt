use denote.Param.Send.{sendable}
use Rattle.worked_serving.proofs.Crossing.{listener_send}
use Rattle.worked_serving.proofs.memory.serve_asked.Goals as goal

pub serve-served-requires-send-Q-Port : goal.serve-served-requires-send-Q-Port
serve-served-requires-send-Q-Port g c κs within = search (listener_send, sendable)
