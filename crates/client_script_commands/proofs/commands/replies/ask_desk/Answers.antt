use Rattle.std.proofs.Common.{◌≡◌, ◌∙◌, sym}
use Rattle.client_script_commands.specs.commands.Replies.{desk_in}
use Rattle.client_script_commands.proofs.commands.replies.ask_desk.Goals as goal

pub returns-in-Some : goal.returns-in-Some
returns-in-Some g c = c.replies_tell.ensures.value desk_in c.args.call (g.A.Asker.exchanges c.args.asker.now) (g.A.Asker.exchanges c.must.new.asker) c.in_ok-reply.reply c.in-Some.value c.in_ok-reply.ensures.tells (sym c.desk_of-found.ensures ∙ c.in-Some.is)

pub returns-in-None : goal.returns-in-None
returns-in-None g c = c.replies_tell.ensures.none desk_in c.args.call (g.A.Asker.exchanges c.args.asker.now) (g.A.Asker.exchanges c.must.new.asker) c.in_ok-reply.reply c.in_ok-reply.ensures.tells (sym c.desk_of-found.ensures ∙ c.in-None.is)
