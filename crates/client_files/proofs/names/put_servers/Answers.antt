use Rattle.std.proofs.Common.{rules, ◌∙◌}
use Rattle.client_files.proofs.NameSteps.{servers_end}
use Rattle.client_files.proofs.names.put_servers.Goals as goal

pub loop-rest-preserved : goal.loop-rest-preserved
loop-rest-preserved c = c.loop-rest.invariant ∙ c.in_ok-more.ensures.puts

pub returns : goal.returns
returns c = servers_end _ _ _ _ c.loop-rest.invariant (search rules)
