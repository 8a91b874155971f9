use denote.Param.Send.{sendable}
use Rattle.std.proofs.Crossing.{crosses}
use Rattle.test_threads.proofs.OfThreads.Sending.{log_send}
use Rattle.test_threads.proofs.threads.run.run.Goals as goal

pub afpd-requires-send-N : goal.afpd-requires-send-N
afpd-requires-send-N g c κs within = search (log_send, sendable, crosses) depth 90 fits 20000
