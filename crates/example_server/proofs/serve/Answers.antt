use denote.Param.Send.{sendable}
use Rattle.std.proofs.Crossing.{crosses}
use Rattle.example_server.proofs.Sending.{log_send}
use Rattle.example_server.proofs.serve.Goals as goal

pub serve_loaded-requires-send-N : goal.serve_loaded-requires-send-N
serve_loaded-requires-send-N g c κs within = search (log_send, sendable, crosses) depth 90 fits 20000

pub serve_loaded-requires-send-N-Link : goal.serve_loaded-requires-send-N-Link
serve_loaded-requires-send-N-Link g c κs within = search (log_send, sendable, crosses) depth 90 fits 20000
