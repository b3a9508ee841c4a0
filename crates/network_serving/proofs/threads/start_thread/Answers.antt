use denote.Param.Send.{sendable}
use Rattle.std.proofs.Crossing.{crosses}
use Rattle.network_serving.proofs.Crossing.{task_send}
use Rattle.network_serving.proofs.threads.start_thread.Goals as goal

pub spawn_with-requires-send-F : goal.spawn_with-requires-send-F
spawn_with-requires-send-F g c κs = search (sendable, crosses, task_send) depth 40

pub spawn_with-requires-send-T : goal.spawn_with-requires-send-T
spawn_with-requires-send-T g c = search (sendable, crosses, task_send) depth 40
