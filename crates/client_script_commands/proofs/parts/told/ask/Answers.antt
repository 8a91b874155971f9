use Rattle.client_script_commands.proofs.OfParts.PartLemmas.{any_told, any_waits, ask_told, ask_waits}
use Rattle.client_script_commands.proofs.parts.told.ask.Goals as goal

pub returns-in-Ok-clause-tells : goal.returns-in-Ok-clause-tells
returns-in-Ok-clause-tells g c = ask_told c.args.call (g.A.Asker.exchanges c.args.asker.now) c.in-Ok.answer (g.A.Asker.exchanges c.ask-told.new.self) c.in-Ok.ensures.asks

pub returns-in-Err-clause-tells : goal.returns-in-Err-clause-tells
returns-in-Err-clause-tells g c = ask_waits c.args.call (g.A.Asker.exchanges c.args.asker.now) c.in-Err.end (g.A.Asker.exchanges c.ask-told.new.self) c.in-Err.ensures.asks

pub returns-in-Ok-clause-any : goal.returns-in-Ok-clause-any
returns-in-Ok-clause-any g c = any_told c.args.call (g.A.Asker.exchanges c.args.asker.now) c.in-Ok.answer (g.A.Asker.exchanges c.ask-told.new.self) c.in-Ok.ensures.asks

pub returns-in-Err-clause-any : goal.returns-in-Err-clause-any
returns-in-Err-clause-any g c = any_waits c.args.call (g.A.Asker.exchanges c.args.asker.now) c.in-Err.end (g.A.Asker.exchanges c.ask-told.new.self) c.in-Err.ensures.asks
