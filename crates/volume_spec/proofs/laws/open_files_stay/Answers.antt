use Rattle.volume_spec.proofs.OpenFiles.{call-lets-be, call-named}
use Rattle.volume_spec.proofs.laws.open_files_stay.Goals as goal

pub returns-clause-name : goal.returns-clause-name
returns-clause-name c = call-named

pub returns-clause-files : goal.returns-clause-files
returns-clause-files c = call-lets-be
