use Rattle.std.proofs.Common.{not, sym}
use Rattle.volume_keeper_records.proofs.tree.is_file.Goals as goal

pub returns-in-Some : goal.returns-in-Some
returns-in-Some c = sym (c.in-Some.ensures (λ place. not place.is_directory))

pub returns-in-None : goal.returns-in-None
returns-in-None c = sym (c.in-None.ensures (λ place. not place.is_directory))
