use Rattle.std.proofs.Common.{[], refl, inl, inr}
use Rattle.afp_serial.proofs.Grows.{went-none}
use Rattle.afp_server.proofs.link.serve.serve_link.Goals as goal

pub returns-in-Err-clause-runs : goal.returns-in-Err-clause-runs
returns-in-Err-clause-runs g c = ([], inr record { memory = refl; unchanged = refl; nothing_asked = refl }, went-none (g.T.Teller.shown c.args.teller.now), inl refl)
