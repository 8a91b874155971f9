use Rattle.afp_server.proofs.OfConnection.Turning.{others-leave}
use Rattle.afp_server.proofs.connection.laws.others_turns_change_nothing.Goals as goal

pub returns : goal.returns
returns c = others-leave
