use Rattle.std.proofs.Common.{◌≡◌, false}
use Rattle.afp_mirror_walk.specs.Follows.{first, goes}
use Rattle.afp_mirror.specs.Runs.{Carries}
use Rattle.afp_mirror.proofs.run.mirror.Given as goal

abbrev pub invariant-loop-left : goal.invariant-loop-left
invariant-loop-left g l = record {
  carries : Carries (goes (first l.fn.volume l.fn.target)) (g.P.Port.port_state l.fn.from) (g.Q.Port.port_state l.fn.to) (goes l.walk) (g.P.Port.port_state l.from) (g.Q.Port.port_state l.to);
  from_goes : (g.P.Port.port_state l.from).is_over ≡ false;
  to_goes : (g.Q.Port.port_state l.to).is_over ≡ false;
}

abbrev pub decreases-loop-left : goal.decreases-loop-left
decreases-loop-left g l = l.left
