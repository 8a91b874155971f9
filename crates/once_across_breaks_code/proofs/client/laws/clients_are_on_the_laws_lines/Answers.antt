use Rattle.once_across_breaks_code.proofs.OfClient.Lines.{lines-ask, lines-break, lines-hold, lines-start, lines-take}
use Rattle.once_across_breaks_code.proofs.client.laws.clients_are_on_the_laws_lines.Goals as goal

pub returns-clause-start : goal.returns-clause-start
returns-clause-start c = lines-start

pub returns-clause-breaks : goal.returns-clause-breaks
returns-clause-breaks c = lines-break

pub returns-clause-asks : goal.returns-clause-asks
returns-clause-asks c = lines-ask c.ids_count_in_rounds.ensures

pub returns-clause-takes : goal.returns-clause-takes
returns-clause-takes c = lines-take c.ids_count_in_rounds.ensures c.frames_of_dsi_are_such_spellings.ensures.finds

pub returns-clause-holds : goal.returns-clause-holds
returns-clause-holds c = lines-hold c.frames_of_dsi_are_such_spellings.ensures.finds
