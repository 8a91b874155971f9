use Rattle.afp_desk.specs.workers.Keeping.{keeping}
use Rattle.afpd_lib.proofs.OfServer.RunLaws.{serves_good_words}
use Rattle.afpd_lib.proofs.server.laws.good_words_are_served.Goals as goal

pub returns : goal.returns
returns g c = serves_good_words g.N.Link.Link.link_state g.G.Gate.passed g.N.Listener.door_state (keeping g.K.Keeper.records g.K.Keeper.steady g.K.Keeper.sure g.K.Keeper.faults g.K.Keeper.settles)
