use Rattle.afp_server.proofs.OfLink.Written.{written-beside}
use Rattle.afp_server.proofs.link.laws.what_is_written_beside_replies.Goals as goal

pub returns : goal.returns
returns c = written-beside
