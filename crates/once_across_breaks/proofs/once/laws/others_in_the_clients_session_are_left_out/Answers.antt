use Rattle.once_across_breaks.proofs.OfOnce.WithoutPremises.{others-asked, others-took}
use Rattle.once_across_breaks.proofs.once.laws.others_in_the_clients_session_are_left_out.Goals as goal

pub returns-clause-token : goal.returns-clause-token
returns-clause-token c = others-took

pub returns-clause-link : goal.returns-clause-link
returns-clause-link c = others-asked
