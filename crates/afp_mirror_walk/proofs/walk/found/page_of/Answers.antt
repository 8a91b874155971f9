use Rattle.std.proofs.Common.{List, []}
use Rattle.afp_mirror_walk.specs.declared.walk.standing.Found.{Found}
use Rattle.afp_mirror_walk.specs.Follows.{page_from}
use Rattle.afp_mirror_walk.proofs.Steps.{page_ends}
use Rattle.afp_mirror_walk.proofs.walk.found.page_of.Goals as goal

pub returns-in-Err-clause-given : goal.returns-in-Err-clause-given
returns-in-Err-clause-given c = page_ends {V = List Found} (λ found. found) c.args.nodes.now c.loop-index.page.items c.args.rows.now c.loop-index.index c.index-rows-index.result (page_from c.args.nodes.now [] c.args.rows.now) c.in-Err.end c.loop-index-test.true c.index-rows-index.is c.loop-index.invariant.same c.in-Err.ensures.given
