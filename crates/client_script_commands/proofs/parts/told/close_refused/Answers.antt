use Rattle.client_script_commands.proofs.OfParts.PartLemmas.{closes_told, closes_stop}
use Rattle.client_script_commands.proofs.parts.told.close_refused.Goals as goal

pub returns-in-Ok : goal.returns-in-Ok
returns-in-Ok g c = closes_told c.args.reference c.args.code (g.A.Asker.exchanges c.args.asker.now) (g.A.Asker.exchanges c.ask.new.asker) c.in-Ok.answer (rw c.close_fork.ensures.call at c.in-Ok.ensures.tells)

pub returns-in-Err : goal.returns-in-Err
returns-in-Err g c = closes_stop c.args.reference c.args.code (g.A.Asker.exchanges c.args.asker.now) (g.A.Asker.exchanges c.ask.new.asker) c.in-Err.stop (rw c.close_fork.ensures.call at c.in-Err.ensures.tells)
