use Rattle.afp_core_state.proofs.KeeperLemmas.{node-count}
use Rattle.afp_core_state.proofs.state.State.nodes.Goals as goal

pub returns-in-Some : goal.returns-in-Some
returns-in-Some g c = node-count c.args.self.now.world.volumes c.args.v.0 c.in-Some.index c.count.result c.kept_at.result.now.state c.in-Some.ensures.0 c.kept_at.ensures c.count.ensures
