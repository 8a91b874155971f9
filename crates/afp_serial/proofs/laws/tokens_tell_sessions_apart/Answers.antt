use Rattle.afp_serial.proofs.Tokens.{tokens-differ}
use Rattle.afp_serial.proofs.laws.tokens_tell_sessions_apart.Goals as goal

pub returns : goal.returns
returns c = tokens-differ
