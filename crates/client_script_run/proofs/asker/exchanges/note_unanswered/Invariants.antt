use Rattle.client_script_run.proofs.asker.exchanges.note_unanswered.Given as goal

abbrev pub ghost-and : goal.ghost-and
ghost-and a = a.item.now
