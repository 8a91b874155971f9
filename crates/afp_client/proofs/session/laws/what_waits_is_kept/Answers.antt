use Rattle.afp_client.proofs.OfSession.RunLemmas.{break_keeps, opening_keeps}
use Rattle.afp_client.proofs.session.laws.what_waits_is_kept.Goals as goal

pub returns-clause-broke : goal.returns-clause-broke
returns-clause-broke c = break_keeps

pub returns-clause-opening : goal.returns-clause-opening
returns-clause-opening c = opening_keeps
