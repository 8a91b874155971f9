use Rattle.once_across_breaks_code.proofs.OfClient.Running.{first-runs-are-moves, links-are-moves, runs-are-moves}
use Rattle.once_across_breaks_code.proofs.client.laws.runs_are_those_of_the_law.Goals as goal

pub returns-clause-runs : goal.returns-clause-runs
returns-clause-runs c = runs-are-moves c.ids_count_in_rounds.ensures c.one_request_for_each.ensures.function

pub returns-clause-first : goal.returns-clause-first
returns-clause-first c = first-runs-are-moves c.ids_count_in_rounds.ensures c.one_request_for_each.ensures.function

pub returns-clause-link : goal.returns-clause-link
returns-clause-link c = links-are-moves c.ids_count_in_rounds.ensures c.one_request_for_each.ensures.function
