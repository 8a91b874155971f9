use Rattle.std.proofs.Common.{rules}
use Rattle.client_files.proofs.NameSteps.{locals_end, locals_more}
use Rattle.client_files.proofs.names.put_locals.Goals as goal

pub loop-rest-preserved : goal.loop-rest-preserved
loop-rest-preserved c = locals_more _ _ _ _ _ _ c.loop-rest.invariant (search rules) c.rest_of-more.ensures c.in_ok-put_local.ensures

pub returns : goal.returns
returns c = locals_end _ _ _ _ c.loop-rest.invariant (search rules)
