use Rattle.afp_client.proofs.OfSession.RunLemmas.{follows_join}
use Rattle.afp_client.proofs.session.laws.steps_join.Goals as goal

pub returns : goal.returns
returns c = follows_join
