use Rattle.once_across_breaks_code.proofs.OfServer.HandledFrames.{frame-handled, laws-of, others-dropped}
use Rattle.once_across_breaks_code.proofs.OfServer.ServedFrames.{scripts-served}
use Rattle.once_across_breaks_code.proofs.server.laws.frames_are_handled_as_the_law_says.Goals as goal

pub returns-clause-frames : goal.returns-clause-frames
returns-clause-frames c = frame-handled (laws-of c.one_way_to_read.ensures.exclusive c.faults_are_told_of_this_ask.ensures.faults c.faults_are_told_of_this_ask.ensures.memory c.fault_hides_no_refusal.ensures.hides c.sound_worlds_stay_sound.ensures.keeps)

pub returns-clause-others : goal.returns-clause-others
returns-clause-others c = others-dropped

pub returns-clause-scripts : goal.returns-clause-scripts
returns-clause-scripts c = scripts-served (laws-of c.one_way_to_read.ensures.exclusive c.faults_are_told_of_this_ask.ensures.faults c.faults_are_told_of_this_ask.ensures.memory c.fault_hides_no_refusal.ensures.hides c.sound_worlds_stay_sound.ensures.keeps)
