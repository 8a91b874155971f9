use Rattle.once_across_breaks_code.proofs.OfServer.FedPieces.{feeds-arrive}
use Rattle.once_across_breaks_code.proofs.OfServer.HandledFrames.{laws-of}
use Rattle.once_across_breaks_code.proofs.OfServer.PieceFrames.{pieces-have}
use Rattle.once_across_breaks_code.proofs.server.laws.pieces_that_are_fed_do_as_the_law_says.Goals as goal

pub returns-clause-pieces : goal.returns-clause-pieces
returns-clause-pieces c = pieces-have (record { same = c.one_frame.ensures.frame; parted = c.one_frame.ensures.bytes })

pub returns-clause-feeds : goal.returns-clause-feeds
returns-clause-feeds c = feeds-arrive (laws-of c.one_way_to_read.ensures.exclusive c.faults_are_told_of_this_ask.ensures.faults c.faults_are_told_of_this_ask.ensures.memory c.fault_hides_no_refusal.ensures.hides c.sound_worlds_stay_sound.ensures.keeps) (record { same = c.one_frame.ensures.frame; parted = c.one_frame.ensures.bytes })
