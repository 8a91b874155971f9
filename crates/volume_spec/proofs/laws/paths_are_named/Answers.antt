use Rattle.volume_spec.proofs.LongPathNames.{path-named}
use Rattle.volume_spec.proofs.laws.paths_are_named.Goals as goal

pub returns : goal.returns
returns c = path-named
