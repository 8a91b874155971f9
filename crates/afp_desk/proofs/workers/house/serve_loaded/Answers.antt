use Rattle.std.proofs.Common.{◌∙◌, ap}
use Rattle.afp_desk.specs.workers.House.{run_end}
use Rattle.afp_desk.specs.workers.Keeping.{keeping}
use Rattle.afp_desk.proofs.OfWorkers.HouseLemmas.{core-served, house-served}
use Rattle.afp_desk.proofs.workers.house.serve_loaded.Goals as goal

pub returns-in-Ok-clause-core : goal.returns-in-Ok-clause-core
returns-in-Ok-clause-core g c =
    core-served g.N.Link.Link.link_state g.G.Gate.passed g.N.Listener.door_state (keeping g.K.Keeper.records g.K.Keeper.steady g.K.Keeper.sure g.K.Keeper.faults g.K.Keeper.settles) c.args.house.now c.args.turns
    c.args.core c.args.doors.items _ c.in-Ok.finished.core c.in-Ok.ensures.ok c.counts-counts.ensures.entries c.counts-counts.ensures.sessions (c.run_end-end.ensures ∙ ap run_end c.as_slice.ensures.value) c.keepers_hold.ensures c.retire-retired.ensures

pub returns-in-Ok-clause-house : goal.returns-in-Ok-clause-house
returns-in-Ok-clause-house g c = λ now keepers loaded.
    house-served g.N.Link.Link.link_state g.G.Gate.passed g.N.Listener.door_state (keeping g.K.Keeper.records g.K.Keeper.steady g.K.Keeper.sure g.K.Keeper.faults g.K.Keeper.settles) c.args.house.now c.args.turns
    c.args.core c.args.doors.items _ now keepers loaded
    (core-served g.N.Link.Link.link_state g.G.Gate.passed g.N.Listener.door_state (keeping g.K.Keeper.records g.K.Keeper.steady g.K.Keeper.sure g.K.Keeper.faults g.K.Keeper.settles) c.args.house.now c.args.turns
    c.args.core c.args.doors.items _ c.in-Ok.finished.core c.in-Ok.ensures.ok c.counts-counts.ensures.entries c.counts-counts.ensures.sessions (c.run_end-end.ensures ∙ ap run_end c.as_slice.ensures.value) c.keepers_hold.ensures c.retire-retired.ensures)
