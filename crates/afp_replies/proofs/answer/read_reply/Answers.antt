use Rattle.afp_replies.proofs.Steps.{is_found, is_only, is_bad}
use Rattle.afp_replies.proofs.answer.read_reply.Goals as goal

pub returns-clause-found : goal.returns-clause-found
returns-clause-found c = is_found _ _ _ (rw c.new.ensures at c.read.ensures)

pub returns-clause-only : goal.returns-clause-only
returns-clause-only c = is_only _ _ _ (rw c.new.ensures at c.read.ensures)

pub returns-clause-bad : goal.returns-clause-bad
returns-clause-bad c = is_bad _ _ _ (rw c.new.ensures at c.read.ensures)
