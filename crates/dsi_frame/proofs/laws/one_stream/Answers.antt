use Rattle.dsi_frame.proofs.StreamLemmas.{has_frames, framed-stopped, framed-framed, stopped-stopped}
use Rattle.dsi_frame.proofs.laws.one_stream.Goals as goal

pub returns-clause-some : goal.returns-clause-some
returns-clause-some c = has_frames

pub returns-clause-exclusive : goal.returns-clause-exclusive
returns-clause-exclusive c = framed-stopped

pub returns-clause-one_rest : goal.returns-clause-one_rest
returns-clause-one_rest c = framed-framed

pub returns-clause-one_stop : goal.returns-clause-one_stop
returns-clause-one_stop c = stopped-stopped
