use Rattle.client_script_commands.proofs.OfParts.PartLemmas.{must_told, must_refused, must_stops}
use Rattle.client_script_commands.proofs.parts.told.must.Goals as goal

pub returns-in-Ok-code-clause-tells : goal.returns-in-Ok-code-clause-tells
returns-in-Ok-code-clause-tells g c = must_told c.args.call (g.A.Asker.exchanges c.args.asker.now) c.in-Ok.answer (g.A.Asker.exchanges c.ask.new.asker) c.in-Ok.ensures.tells c.in-Ok-code.is

pub returns-in_default : goal.returns-in_default
returns-in_default g c = record { tells = must_refused c.args.call (g.A.Asker.exchanges c.args.asker.now) c.in-Ok.answer (g.A.Asker.exchanges c.ask.new.asker) c.in-Ok.ensures.tells c.in_default.not-Ok; falls = tt }

pub returns-in-Err-clause-tells : goal.returns-in-Err-clause-tells
returns-in-Err-clause-tells g c = must_stops c.args.call (g.A.Asker.exchanges c.args.asker.now) (g.A.Asker.exchanges c.ask.new.asker) c.in-Err.stop c.in-Err.ensures.tells
