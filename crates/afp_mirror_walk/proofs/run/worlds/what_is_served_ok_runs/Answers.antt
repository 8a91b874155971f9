use Rattle.afp_mirror_walk.proofs.Refused.{refused-stays}
use Rattle.afp_mirror_walk.proofs.Served.{served-ok}
use Rattle.afp_mirror_walk.proofs.run.worlds.what_is_served_ok_runs.Goals as goal

pub returns-clause-runs : goal.returns-clause-runs
returns-clause-runs c = served-ok

pub returns-clause-stays : goal.returns-clause-stays
returns-clause-stays c = refused-stays
