use Rattle.once_across_breaks_code.proofs.OfClient.Asking.{asks-are-commands}
use Rattle.once_across_breaks_code.proofs.OfClient.Breaking.{begins-are-breaks, breaks-stay}
use Rattle.once_across_breaks_code.proofs.OfClient.Replying.{only-replies-are-taken, replies-are-taken, requests-leave-all, tags-are-shown}
use Rattle.once_across_breaks_code.proofs.client.laws.steps_are_those_of_the_law.Goals as goal

pub returns-clause-breaks : goal.returns-clause-breaks
returns-clause-breaks c = breaks-stay

pub returns-clause-begins : goal.returns-clause-begins
returns-clause-begins c = begins-are-breaks

pub returns-clause-asks : goal.returns-clause-asks
returns-clause-asks c = asks-are-commands c.ids_count_in_rounds.ensures

pub returns-clause-replies : goal.returns-clause-replies
returns-clause-replies c = replies-are-taken c.ids_count_in_rounds.ensures

pub returns-clause-tags : goal.returns-clause-tags
returns-clause-tags c = tags-are-shown

pub returns-clause-others : goal.returns-clause-others
returns-clause-others c = only-replies-are-taken c.ids_count_in_rounds.ensures

pub returns-clause-requests : goal.returns-clause-requests
returns-clause-requests c = requests-leave-all
