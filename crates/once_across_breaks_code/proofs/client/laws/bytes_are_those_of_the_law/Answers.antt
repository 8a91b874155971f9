use Rattle.once_across_breaks_code.proofs.OfClient.Few.{writes-are-spelt}
use Rattle.once_across_breaks_code.proofs.OfClient.Reading.{asks-are-spelt, begins-are-spelt, taken-is-read, unfinished-is-unread}
use Rattle.once_across_breaks_code.proofs.client.laws.bytes_are_those_of_the_law.Goals as goal

pub returns-clause-writes : goal.returns-clause-writes
returns-clause-writes c = writes-are-spelt

pub returns-clause-asks : goal.returns-clause-asks
returns-clause-asks c = asks-are-spelt c.ids_count_in_rounds.ensures

pub returns-clause-begins : goal.returns-clause-begins
returns-clause-begins c = begins-are-spelt

pub returns-clause-taken : goal.returns-clause-taken
returns-clause-taken c = taken-is-read c.ids_count_in_rounds.ensures c.frames_of_dsi_are_such_spellings.ensures.finds

pub returns-clause-unfinished : goal.returns-clause-unfinished
returns-clause-unfinished c = unfinished-is-unread c.frames_of_dsi_are_such_spellings.ensures.finds
