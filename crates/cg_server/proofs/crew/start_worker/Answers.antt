-- The server and an inbox may be used by several threads.
use denote.Param.Send.{sendable}
use Rattle.cg_server.proofs.Crossing.{server_shared}
use Rattle.cg_server.proofs.inbox.Inbox.TheSendSync as inbox
use Rattle.cg_server.proofs.crew.start_worker.Goals as goal

pub spawn-requires-send-F : goal.spawn-requires-send-F
spawn-requires-send-F g c κs within = search (sendable, server_shared, inbox.the_sync) depth 20
