-- Forks that are one.
use Rattle.std.proofs.Common.{◌≡◌, true, refl}
use Rattle.afp_base.specs.DenyMode.{Fork, is_one_fork}
use Rattle.afp_base.proofs.DefinitionLaws.{one_fork}

pub same_fork : (f g : Fork) → is_one_fork f g ≡ true → f ≡ g
same_fork f g = (one_fork f g).0

pub one_fork-itself : (f : Fork) → is_one_fork f f ≡ true
one_fork-itself f = (one_fork f f).1 refl
