use Rattle.volume_spec.proofs.PathNames.{utf8-path-named}
use Rattle.volume_spec.proofs.laws.utf8_paths_are_named.Goals as goal

pub returns : goal.returns
returns c = utf8-path-named
