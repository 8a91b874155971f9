use Rattle.once_across_breaks.proofs.OfSame.Beginning.{first-openings-told}
use Rattle.once_across_breaks.proofs.same.laws.first_openings_are_told.Goals as goal

pub returns : goal.returns
returns c = first-openings-told c.what_is_written_is_read_again.ensures.again
