use Rattle.afp_client.proofs.OfSession.DecidingLemmas.{frame_decides, none_decides, bad_header_decides}
use Rattle.afp_client.proofs.session.laws.the_next_frame_decides.Goals as goal

pub returns-clause-frame : goal.returns-clause-frame
returns-clause-frame c = frame_decides

pub returns-clause-none : goal.returns-clause-none
returns-clause-none c = none_decides

pub returns-clause-header : goal.returns-clause-header
returns-clause-header c = bad_header_decides
