use Rattle.afp_client.proofs.OfSession.TokenLemmas.{found_is_shown, shown_is_found}
use Rattle.afp_client.proofs.session.laws.a_token_is_read.Goals as goal

pub returns-clause-shown : goal.returns-clause-shown
returns-clause-shown c = shown_is_found

pub returns-clause-found : goal.returns-clause-found
returns-clause-found c = found_is_shown
