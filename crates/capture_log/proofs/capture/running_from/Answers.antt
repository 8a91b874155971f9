use Rattle.std.specs.Prelude.{is_some}
use Rattle.std.proofs.lemmas.Result.{IfOk-weaker}
use Rattle.capture_log.proofs.TakingLemmas.{runs-new, waits-there, set-up-there}
use Rattle.capture_log.proofs.capture.running_from.Goals as goal

pub begin_running-requires-clause-waiting : goal.begin_running-requires-clause-waiting
begin_running-requires-clause-waiting g c = waits-there c.args.there c.args.setup.now (is_some c.args.fresh) c.requires.0 c.in-None.is c.requires.1

pub begin_running-requires-clause-set_up : goal.begin_running-requires-clause-set_up
begin_running-requires-clause-set_up g c = set-up-there c.args.there c.args.setup.now (is_some c.args.fresh) c.requires.0 c.in-None.is c.requires.1 c.requires.2

pub returns-in-None : goal.returns-in-None
returns-in-None g c =
    IfOk-weaker c.begin_running.result _ _ (λ r fresh s is. runs-new c.args.there c.args.setup.now (is_some c.args.fresh) c.args.now r s c.in-None.is fresh is) c.begin_running.ensures
