use Rattle.std.proofs.Common.{rules}
use Rattle.client_files.proofs.VerifyLemmas.{shares_more, shares_none}
use Rattle.client_files.proofs.verify.common.Goals as goal

pub loop-more-init : goal.loop-more-init
loop-more-init c = shares_none _ _ c.requires

pub loop-more-preserved : goal.loop-more-preserved
loop-more-preserved c = shares_more _ _ _ _ _ _ _ c.loop-more.invariant (search rules) (search rules) c.rest_of-next.ensures c.rest_of-after.ensures
