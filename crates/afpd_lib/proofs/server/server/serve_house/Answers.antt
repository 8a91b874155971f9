use Rattle.std.proofs.Common.{◌≡◌, length, rules}
use Rattle.afp_desk.specs.workers.Keeping.{keeping}
use Rattle.afpd_lib.proofs.OfServer.HouseEnds.{core-ends}
use Rattle.afpd_lib.proofs.server.server.serve_house.Goals as goal

pub returns-in-Ok-new : goal.returns-in-Ok-new
returns-in-Ok-new g c =
    let kept_by = keeping g.K.Keeper.records g.K.Keeper.steady g.K.Keeper.sure g.K.Keeper.faults g.K.Keeper.settles in
    let many : length c.args.doors.items ≡ c.args.said.now.workers = search rules in
    core-ends g.N.Link.Link.link_state g.G.Gate.passed g.N.Listener.door_state kept_by c.args.house.now c.args.keepers.items c.args.said.now.workers c.args.said.now.turns (g.C.Clock.moment_told c.args.clock.now) c.args.doors.items
    c.now.result c.now.ensures c.in-Ok-new.core c.in-Ok-new.ensures.start many _ _ _ c.serve_core.ensures
