use Rattle.std.proofs.Common.{subst}
use Rattle.afp_core_state.specs.OnVolumes.{IsOpen}
use Rattle.afp_core_calls.proofs.OfVolume.FlushRows.{flush-runs, flush-settles, flush-unopened, flush-unsettled}
use Rattle.afp_core_calls.proofs.volume.flush.flush.Goals as goal

pub returns-in_default-clause-runs : goal.returns-in_default-clause-runs
returns-in_default-clause-runs g c = flush-unopened c.args.state.now c.args.session.0 c.args.volume _ (subst (IsOpen c.args.state.now c.args.session.0 c.args.volume.0) c.in_default.is c.opened.ensures) c.refused.ensures

pub returns-in_default-clause-settles : goal.returns-in_default-clause-settles
returns-in_default-clause-settles g c = flush-unsettled c.args.state.now c.args.session.0 c.args.volume c.refused.result (subst (IsOpen c.args.state.now c.args.session.0 c.args.volume.0) c.in_default.is c.opened.ensures)

pub returns-clause-runs : goal.returns-clause-runs
returns-clause-runs g c = flush-runs c.args.state.now c.args.session.0 c.args.volume _ c.in-Some.index c.settle_at-answer.result _ c.in-Some.ensures c.settle_at-answer.ensures c.told_settled.ensures

pub returns-clause-settles : goal.returns-clause-settles
returns-clause-settles g c = flush-settles c.args.state.now c.args.session.0 c.args.volume _ c.in-Some.index c.settle_at-answer.result _ c.in-Some.ensures c.settle_at-answer.ensures c.told_settled.ensures
