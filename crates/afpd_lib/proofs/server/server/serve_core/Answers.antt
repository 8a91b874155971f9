use Rattle.std.proofs.Common.{inr}
use Rattle.afpd_lib.proofs.server.server.serve_core.Goals as goal

pub returns-in-Ok : goal.returns-in-Ok
returns-in-Ok g c = inr record { closing = c.in-Ok.closing; serves = c.in-Ok.ensures.house; so = c.served_run.ensures.end; shown = c.served_run.ensures.trace; comes = c.served_run.ensures.doors }
