use Rattle.afp_serial.proofs.KeptFound.{brings-no-other, finds-kept, keeps-others, loses-oldest}
use Rattle.afp_serial.proofs.laws.last_answers_are_found.Goals as goal

pub returns-clause-newest : goal.returns-clause-newest
returns-clause-newest c = finds-kept c.repeat_finds_newest.ensures.newest c.repeat_finds_newest.ensures.others

pub returns-clause-others : goal.returns-clause-others
returns-clause-others c = keeps-others c.repeat_finds_newest.ensures.newest c.repeat_finds_newest.ensures.others

pub returns-clause-oldest : goal.returns-clause-oldest
returns-clause-oldest c = loses-oldest c.repeat_finds_newest.ensures.newest c.repeat_finds_newest.ensures.others

pub returns-clause-none : goal.returns-clause-none
returns-clause-none c = brings-no-other c.repeat_finds_newest.ensures.newest c.repeat_finds_newest.ensures.others
