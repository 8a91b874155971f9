use Rattle.volume_spec.proofs.ForkEffects.{files-stay, fork-counted, fork-few, fork-given, fork-lets-be, fork-sound, fork-typed, new-few}
use Rattle.volume_spec.proofs.laws.forks_are_given_bytes.Goals as goal

pub returns-clause-sound : goal.returns-clause-sound
returns-clause-sound c = fork-sound

pub returns-clause-typed : goal.returns-clause-typed
returns-clause-typed c = fork-typed

pub returns-clause-given : goal.returns-clause-given
returns-clause-given c = fork-given

pub returns-clause-let_be : goal.returns-clause-let_be
returns-clause-let_be c = fork-lets-be

pub returns-clause-files : goal.returns-clause-files
returns-clause-files c = files-stay

pub returns-clause-counted : goal.returns-clause-counted
returns-clause-counted c = fork-counted

pub returns-clause-few : goal.returns-clause-few
returns-clause-few c = fork-few

pub returns-clause-room : goal.returns-clause-room
returns-clause-room c = new-few
