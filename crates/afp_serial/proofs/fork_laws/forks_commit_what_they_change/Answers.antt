use Rattle.afp_serial.proofs.ForkCommits.{others-leave, three-change}
use Rattle.afp_serial.proofs.fork_laws.forks_commit_what_they_change.Goals as goal

pub returns-clause-three : goal.returns-clause-three
returns-clause-three c = three-change

pub returns-clause-others : goal.returns-clause-others
returns-clause-others c = others-leave
