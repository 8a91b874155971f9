use Rattle.client_script_commands.proofs.OfParts.PartLemmas.{does_told, does_stop}
use Rattle.client_script_commands.proofs.parts.told.must_do.Goals as goal

pub returns-in-Ok : goal.returns-in-Ok
returns-in-Ok g c = does_told c.args.call (g.A.Asker.exchanges c.args.asker.now) (g.A.Asker.exchanges c.must.new.asker) c.in-Ok.reply c.in-Ok.ensures.tells

pub returns-in-Err : goal.returns-in-Err
returns-in-Err g c = does_stop c.args.call (g.A.Asker.exchanges c.args.asker.now) (g.A.Asker.exchanges c.must.new.asker) c.in-Err.stop c.in-Err.ensures.tells
