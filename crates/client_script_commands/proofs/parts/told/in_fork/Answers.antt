use Rattle.client_script_commands.proofs.OfParts.PartLemmas.{fork_told, fork_refused, fork_stops}
use Rattle.client_script_commands.proofs.parts.told.in_fork.Goals as goal

pub returns-in-Ok-code : goal.returns-in-Ok-code
returns-in-Ok-code g c = fork_told c.args.reference c.args.call (g.A.Asker.exchanges c.args.asker.now) c.in-Ok.answer (g.A.Asker.exchanges c.ask.new.asker) c.in-Ok.ensures.tells c.in-Ok-code.is

pub returns-in_default : goal.returns-in_default
returns-in_default g c = fork_refused c.args.reference c.args.call (g.A.Asker.exchanges c.args.asker.now) c.in-Ok.answer (g.A.Asker.exchanges c.ask.new.asker) (g.A.Asker.exchanges c.close_refused.new.asker) c.close_refused.result c.in-Ok.ensures.tells c.in_default.not-Ok c.close_refused.ensures

pub returns-in-Err : goal.returns-in-Err
returns-in-Err g c = fork_stops c.args.reference c.args.call (g.A.Asker.exchanges c.args.asker.now) (g.A.Asker.exchanges c.ask.new.asker) c.in-Err.stop c.in-Err.ensures.tells
