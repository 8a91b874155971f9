use Rattle.afp_desk.specs.workers.Keeping.{keeping}
use Rattle.afpd_lib.proofs.OfServer.Faultless.{meets_no_fault}
use Rattle.afpd_lib.proofs.server.laws.no_ask_meets_a_fault.Goals as goal

pub returns : goal.returns
returns g c = meets_no_fault g.N.Link.Link.link_state g.G.Gate.passed g.N.Listener.door_state (keeping g.K.Keeper.records g.K.Keeper.steady g.K.Keeper.sure g.K.Keeper.faults g.K.Keeper.settles)
