use Rattle.afp_server.proofs.OfConnection.Whole.{is_served_whole}
use Rattle.afp_server.proofs.connection.laws.a_link_is_served_whole.Goals as goal

pub returns : goal.returns
returns c = is_served_whole
