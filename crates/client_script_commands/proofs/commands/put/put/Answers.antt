use Rattle.std.proofs.Common.{rules}
use Rattle.client_script_commands.proofs.commands.put.put.Goals as goal

pub returns : goal.returns
returns g c = search rules
