use Rattle.afp_server.proofs.OfLink.ScriptLaws.{scripted}
use Rattle.afp_server.proofs.link.laws.what_happens_follows_the_script.Goals as goal

pub returns : goal.returns
returns c = scripted
