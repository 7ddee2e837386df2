-- The server and a task may be used by several threads.
use denote.Param.Send.{sendable}
use Rattle.cg_server.proofs.Crossing.{server_shared}
use Rattle.cg_server.proofs.crew.Task.TheSendSync as task
use Rattle.cg_server.proofs.crew.start_task.Goals as goal

pub spawn-requires-send-F : goal.spawn-requires-send-F
spawn-requires-send-F g c κs within = search (sendable, server_shared, task.the_send) depth 20
