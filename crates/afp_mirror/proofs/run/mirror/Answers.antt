use Rattle.afp_mirror_walk.specs.Follows.{first, goes}
use Rattle.afp_mirror.proofs.RunLemmas.{end_there}
use Rattle.afp_mirror.proofs.run.mirror.Goals as goal

pub returns-in-Err-told : goal.returns-in-Err-told
returns-in-Err-told g c =
    end_there (goes (first c.args.volume.now c.args.target.now)) (g.P.Port.port_state c.args.from.now) (g.Q.Port.port_state c.args.to.now) c.loop-left.walk (g.P.Port.port_state c.loop-left.from) (g.Q.Port.port_state c.loop-left.to)
    c.in-Ok-ask.heard c.in-Err-told.end (g.P.Port.port_state c.ask.new.from) (g.Q.Port.port_state c.ask.new.to) c.loop-left.invariant.carries c.in-Ok-ask.ensures c.in-Err-told.ensures
