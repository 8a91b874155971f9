use Rattle.volume_spec.proofs.Owned.{closed-is-denied, rights-only-deny}
use Rattle.volume_spec.proofs.laws.rights_only_deny.Goals as goal

pub returns-clause-closed : goal.returns-clause-closed
returns-clause-closed c = closed-is-denied

pub returns-clause-deny : goal.returns-clause-deny
returns-clause-deny c = rights-only-deny
