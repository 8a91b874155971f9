use Rattle.once_across_breaks_code.proofs.OfServer.Writings.{replies-spelt, written-carries, written-good}
use Rattle.once_across_breaks_code.proofs.server.laws.frames_are_those_of_the_law.Goals as goal

pub returns-clause-written : goal.returns-clause-written
returns-clause-written c = written-carries

pub returns-clause-good : goal.returns-clause-good
returns-clause-good c = written-good

pub returns-clause-replies : goal.returns-clause-replies
returns-clause-replies c = replies-spelt
