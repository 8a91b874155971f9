use Rattle.afp_serial.proofs.FreshWorld.{fresh-serve, start-sound}
use Rattle.afp_serial.proofs.StaysSound.{after-sound, stand-sound, answer-kind}
use Rattle.afp_serial.proofs.CallLaws.{fits-frame}
use Rattle.afp_serial.proofs.laws.sound_worlds_stay_sound.Goals as goal

pub returns-clause-starts : goal.returns-clause-starts
returns-clause-starts c = start-sound

pub returns-clause-fresh : goal.returns-clause-fresh
returns-clause-fresh c = fresh-serve

pub returns-clause-keeps : goal.returns-clause-keeps
returns-clause-keeps c = after-sound

pub returns-clause-stands : goal.returns-clause-stands
returns-clause-stands c = stand-sound

pub returns-clause-answers : goal.returns-clause-answers
returns-clause-answers c = answer-kind

pub returns-clause-fits : goal.returns-clause-fits
returns-clause-fits c = fits-frame
