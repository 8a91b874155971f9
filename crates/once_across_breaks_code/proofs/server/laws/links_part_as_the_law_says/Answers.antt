use Rattle.once_across_breaks_code.proofs.OfServer.Partings.{links-part, links-quiet}
use Rattle.once_across_breaks_code.proofs.server.laws.links_part_as_the_law_says.Goals as goal

pub returns-clause-parts : goal.returns-clause-parts
returns-clause-parts c = links-part

pub returns-clause-quiets : goal.returns-clause-quiets
returns-clause-quiets c = links-quiet
