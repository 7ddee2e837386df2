-- The server and its listener may be used by several threads.
use denote.Param.Send.{sendable}
use Rattle.std.proofs.net.tcp.TcpListener.TheSendSync as listener
use Rattle.cg_server.proofs.Crossing.{server_shared}
use Rattle.cg_server.proofs.serve.run_threads.Goals as goal

pub join_mut-accepted-requires-send-F : goal.join_mut-accepted-requires-send-F
join_mut-accepted-requires-send-F g c κs within = search (sendable, server_shared, listener.the_sync) depth 20
