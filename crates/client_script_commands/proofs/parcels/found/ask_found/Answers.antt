use Rattle.std.proofs.Common.{◌∙◌, sym}
use Rattle.client_script_commands.specs.parcels.Found.{found_in}
use Rattle.client_script_commands.proofs.parcels.found.ask_found.Goals as goal

pub returns-in-Ok-Some : goal.returns-in-Ok-Some
returns-in-Ok-Some g c = c.replies_tell.ensures.value found_in c.args.call (g.A.Asker.exchanges c.args.asker.now) (g.A.Asker.exchanges c.must.new.asker) c.in_ok-reply.reply c.in-Ok-Some.value c.in_ok-reply.ensures.tells (sym c.in-Ok-Some.ensures ∙ c.in-Ok-Some.field-0-is)

pub returns-in-Ok-None : goal.returns-in-Ok-None
returns-in-Ok-None g c = c.replies_tell.ensures.none found_in c.args.call (g.A.Asker.exchanges c.args.asker.now) (g.A.Asker.exchanges c.must.new.asker) c.in_ok-reply.reply c.in_ok-reply.ensures.tells (sym c.in-Ok-None.ensures ∙ c.in-Ok-None.field-0-is)

pub returns-in-Err : goal.returns-in-Err
returns-in-Err g c = c.replies_tell.ensures.memory found_in c.args.call (g.A.Asker.exchanges c.args.asker.now) (g.A.Asker.exchanges c.must.new.asker) c.in_ok-reply.reply c.in_ok-reply.ensures.tells
