use Rattle.std.proofs.Common.{rules}
use Rattle.client_script_commands.proofs.OfLs.ListLemmas.{behind_within, behind_past}
use Rattle.client_script_commands.proofs.ls.ls.lists_go_on.Goals as goal

pub returns-clause-within : goal.returns-clause-within
returns-clause-within g c = λ before final volume path count text result n h. behind_within before final volume path count text result (search rules) h

pub returns-clause-past : goal.returns-clause-past
returns-clause-past g c = λ before volume path count text result n e. behind_past before volume path count text result (search rules) (c.parts_end.ensures.bad before result e)
