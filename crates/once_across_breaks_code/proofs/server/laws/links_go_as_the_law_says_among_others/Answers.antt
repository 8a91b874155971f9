use Rattle.once_across_breaks_code.proofs.OfServer.Arriving.{frames-arrive, partings-arrive, pieces-arrive, quiets-arrive, scripts-arrive}
use Rattle.once_across_breaks_code.proofs.OfServer.HandledFrames.{laws-of}
use Rattle.once_across_breaks_code.proofs.server.laws.links_go_as_the_law_says_among_others.Goals as goal

pub returns-clause-frames : goal.returns-clause-frames
returns-clause-frames c = frames-arrive (laws-of c.one_way_to_read.ensures.exclusive c.faults_are_told_of_this_ask.ensures.faults c.faults_are_told_of_this_ask.ensures.memory c.fault_hides_no_refusal.ensures.hides c.sound_worlds_stay_sound.ensures.keeps)

pub returns-clause-scripts : goal.returns-clause-scripts
returns-clause-scripts c = scripts-arrive (laws-of c.one_way_to_read.ensures.exclusive c.faults_are_told_of_this_ask.ensures.faults c.faults_are_told_of_this_ask.ensures.memory c.fault_hides_no_refusal.ensures.hides c.sound_worlds_stay_sound.ensures.keeps)

pub returns-clause-pieces : goal.returns-clause-pieces
returns-clause-pieces c = pieces-arrive (laws-of c.one_way_to_read.ensures.exclusive c.faults_are_told_of_this_ask.ensures.faults c.faults_are_told_of_this_ask.ensures.memory c.fault_hides_no_refusal.ensures.hides c.sound_worlds_stay_sound.ensures.keeps)

pub returns-clause-quiets : goal.returns-clause-quiets
returns-clause-quiets c = quiets-arrive

pub returns-clause-partings : goal.returns-clause-partings
returns-clause-partings c = partings-arrive
