use Rattle.std.proofs.Common.{sym, ◌∙◌}
use Rattle.capture_made.proofs.OfMade.AddingLemmas.{counts-same}
use Rattle.capture_made.proofs.made.counting.counts_of.Goals as goal

pub returns-in-Same : goal.returns-in-Same
returns-in-Same g c = λ s is. (counts-same s _ _ _ _ _ _ (c.in_ok-links.ensures s is) c.in-Same.is, sym (c.nodes.ensures s is) ∙ c.in-Some.is)
