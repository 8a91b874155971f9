use Rattle.afp_mirror_walk.proofs.ForkSteps.{closes-stay-put, finds-stay-put, opens-stay-put, volume-stays-put}
use Rattle.afp_mirror_walk.proofs.run.worlds.volumes_stay.Goals as goal

pub returns-clause-opens : goal.returns-clause-opens
returns-clause-opens c = opens-stay-put

pub returns-clause-closes : goal.returns-clause-closes
returns-clause-closes c = closes-stay-put

pub returns-clause-opens_volume : goal.returns-clause-opens_volume
returns-clause-opens_volume c = volume-stays-put

pub returns-clause-finds : goal.returns-clause-finds
returns-clause-finds c = finds-stay-put
