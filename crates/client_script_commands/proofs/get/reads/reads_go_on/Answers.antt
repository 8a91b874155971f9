use Rattle.std.proofs.Common.{rules}
use Rattle.client_script_commands.proofs.OfGet.ReadLemmas.{behind_within, behind_past}
use Rattle.client_script_commands.proofs.get.reads.reads_go_on.Goals as goal

pub returns-clause-within : goal.returns-clause-within
returns-clause-within g c = λ before final reference next got result n h. behind_within before final reference next got result (search rules) h

pub returns-clause-past : goal.returns-clause-past
returns-clause-past g c = λ before reference next got result n e. behind_past before reference next got result (search rules) (c.parts_end.ensures.bad before result e)
