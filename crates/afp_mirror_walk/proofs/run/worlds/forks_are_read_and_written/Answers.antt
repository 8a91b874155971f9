use Rattle.afp_mirror_walk.proofs.ForkSteps.{reads-run, writes-run}
use Rattle.afp_mirror_walk.proofs.run.worlds.forks_are_read_and_written.Goals as goal

pub returns-clause-reads : goal.returns-clause-reads
returns-clause-reads c = reads-run

pub returns-clause-writes : goal.returns-clause-writes
returns-clause-writes c = writes-run
