use Rattle.dsi_frame.proofs.FrameLemmas.{canonical_spelling, canonical_begins}
use Rattle.dsi_frame.proofs.laws.read_again.Goals as goal

pub returns-clause-spelling : goal.returns-clause-spelling
returns-clause-spelling c = canonical_spelling

pub returns-clause-begins : goal.returns-clause-begins
returns-clause-begins c = canonical_begins
