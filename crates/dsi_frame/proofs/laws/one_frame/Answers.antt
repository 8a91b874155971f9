use Rattle.dsi_frame.proofs.FrameLemmas.{one_frame_begins, one_spelling}
use Rattle.dsi_frame.proofs.laws.one_frame.Goals as goal

pub returns-clause-frame : goal.returns-clause-frame
returns-clause-frame c = one_frame_begins

pub returns-clause-bytes : goal.returns-clause-bytes
returns-clause-bytes c = λ first more other others f g s t same. let one = one_spelling first more other others f g s t same in (one.1, one.2)
