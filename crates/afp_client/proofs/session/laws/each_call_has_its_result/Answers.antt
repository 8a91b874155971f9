use Rattle.afp_client.proofs.OfSession.ResultLemmas.{each_has_its_result}
use Rattle.afp_client.proofs.session.laws.each_call_has_its_result.Goals as goal

pub returns : goal.returns
returns c = each_has_its_result
