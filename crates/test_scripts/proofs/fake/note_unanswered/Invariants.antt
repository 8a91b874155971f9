use Rattle.test_scripts.proofs.fake.note_unanswered.Given as goal

abbrev pub ghost-and : goal.ghost-and
ghost-and a = a.item.now
