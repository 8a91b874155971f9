use Rattle.std.proofs.Common.{Err, refl}
use Rattle.client_script_commands.specs.declared.parts.asker.Stop.TheVariants as stops
use Rattle.client_script_commands.specs.ls.Ls.{rows_in}
use Rattle.client_script_commands.proofs.OfLs.ListLemmas.{lists_bad, lists_end, lists_refused}
use Rattle.client_script_commands.proofs.OfLs.ShownLemmas.{shows_bad, shows_end, shows_list, shows_refused, shows_stop}
use Rattle.client_script_commands.proofs.ls.ls.list_page.Goals as goal

pub returns-in-Ok-None-clause-page : goal.returns-in-Ok-None-clause-page
returns-in-Ok-None-clause-page g c =
    lists_bad _ c.args.volume c.args.path.now c.args.count c.args.text.now c.in-Ok.call (g.A.Asker.exchanges c.args.asker.now) c.in-Ok-ask_list.answer (g.A.Asker.exchanges c.ask_list.new.asker) c.in-Ok.ensures.call c.in-Ok-ask_list.ensures.any c.in-Ok-code.is (rows_in c.in-Ok-ask_list.answer.reply) refl c.put_answer.new.text (rw c.in-Ok-None.field-0-is at c.in-Ok-None.ensures)
    (c.parts_end.ensures.bad (g.A.Asker.exchanges c.ask_list.new.asker) (Err stops.BadReply) refl)

pub returns-in-ObjectNotFound-clause-page : goal.returns-in-ObjectNotFound-clause-page
returns-in-ObjectNotFound-clause-page g c = (refl, lists_end c.args.volume c.args.path.now c.args.count c.args.text.now c.in-Ok.call (g.A.Asker.exchanges c.args.asker.now) c.in-Ok-ask_list.answer (g.A.Asker.exchanges c.ask_list.new.asker) c.in-Ok.ensures.call c.in-Ok-ask_list.ensures.any c.in-ObjectNotFound.is)

pub returns-in-Ok-Some-clause-shows : goal.returns-in-Ok-Some-clause-shows
returns-in-Ok-Some-clause-shows g c =
    shows_list c.in-Ok.call (g.A.Asker.exchanges c.args.asker.now) c.in-Ok-ask_list.answer (g.A.Asker.exchanges c.ask_list.new.asker) c.in-Ok-ask_list.ensures.log c.in-Ok-code.is (rows_in c.in-Ok-ask_list.answer.reply) refl
    c.in-Ok-Some.size c.args.text.now c.put_answer.new.text (rw c.in-Ok-Some.field-0-is at c.in-Ok-Some.ensures)

pub returns-in-Ok-None-clause-shows : goal.returns-in-Ok-None-clause-shows
returns-in-Ok-None-clause-shows g c =
    shows_bad c.in-Ok.call (g.A.Asker.exchanges c.args.asker.now) c.in-Ok-ask_list.answer (g.A.Asker.exchanges c.ask_list.new.asker) c.in-Ok-ask_list.ensures.log c.in-Ok-code.is (rows_in c.in-Ok-ask_list.answer.reply) refl
    c.args.text.now c.put_answer.new.text (rw c.in-Ok-None.field-0-is at c.in-Ok-None.ensures)

pub returns-in-ObjectNotFound-clause-shows : goal.returns-in-ObjectNotFound-clause-shows
returns-in-ObjectNotFound-clause-shows g c =
    shows_end c.in-Ok.call (g.A.Asker.exchanges c.args.asker.now) c.in-Ok-ask_list.answer (g.A.Asker.exchanges c.ask_list.new.asker) c.args.text.now c.in-Ok-ask_list.ensures.log c.in-ObjectNotFound.is

pub returns-in_default : goal.returns-in_default
returns-in_default g c = record {
  page = (refl, lists_refused c.args.volume c.args.path.now c.args.count c.args.text.now c.in-Ok.call (g.A.Asker.exchanges c.args.asker.now) c.in-Ok-ask_list.answer (g.A.Asker.exchanges c.ask_list.new.asker) c.in-Ok.ensures.call c.in-Ok-ask_list.ensures.any c.in_default.not-Ok c.in_default.not-ObjectNotFound);
  shows = shows_refused c.in-Ok.call (g.A.Asker.exchanges c.args.asker.now) c.in-Ok-ask_list.answer (g.A.Asker.exchanges c.ask_list.new.asker) c.args.text.now c.in-Ok-ask_list.ensures.log c.in_default.not-Ok;
  falls = c.in-Ok-ask_list.ensures.falls;
}

pub returns-in-Err-ask_list-clause-shows : goal.returns-in-Err-ask_list-clause-shows
returns-in-Err-ask_list-clause-shows g c =
    shows_stop (g.A.Asker.exchanges c.args.asker.now) (g.A.Asker.exchanges c.ask_list.new.asker) c.in-Ok.call c.args.text.now c.in-Err-ask_list.stop c.in-Err-ask_list.ensures.log
