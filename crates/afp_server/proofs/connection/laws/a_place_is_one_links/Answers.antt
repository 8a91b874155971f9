use Rattle.afp_server.proofs.OfConnection.Places.{one_links_places}
use Rattle.afp_server.proofs.connection.laws.a_place_is_one_links.Goals as goal

pub returns : goal.returns
returns c = one_links_places
