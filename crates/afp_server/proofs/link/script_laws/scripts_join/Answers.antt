use Rattle.afp_server.proofs.OfLink.Scripts.{script-join}
use Rattle.afp_server.proofs.link.script_laws.scripts_join.Goals as goal

pub returns : goal.returns
returns c = script-join
