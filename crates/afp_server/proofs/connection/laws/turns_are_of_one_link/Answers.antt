use Rattle.afp_server.proofs.OfConnection.Turning.{one_links_turn}
use Rattle.afp_server.proofs.connection.laws.turns_are_of_one_link.Goals as goal

pub returns : goal.returns
returns c = one_links_turn
