use Rattle.once_across_breaks.proofs.OfOnce.DsiDown.{dsi-codecs}
use Rattle.once_across_breaks.proofs.OfOnce.DsiFront.{finds-frame}
use Rattle.once_across_breaks.proofs.once.laws.frames_of_dsi_are_such_spellings.Goals as goal

pub returns-clause-codecs : goal.returns-clause-codecs
returns-clause-codecs c = dsi-codecs c.what_is_written_is_read_again.ensures.again

pub returns-clause-finds : goal.returns-clause-finds
returns-clause-finds c = finds-frame
