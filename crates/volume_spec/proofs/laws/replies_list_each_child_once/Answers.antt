use Rattle.volume_spec.proofs.ListReplies.{counts-once, counts-by-key, entries-are-page, entries-are-asked, entries-fit, never-empty, fewer-fit, entries-go-as-far, turns-give-first, turns-give-all}
use Rattle.volume_spec.proofs.laws.replies_list_each_child_once.Goals as goal

pub returns-clause-once : goal.returns-clause-once
returns-clause-once c = counts-once

pub returns-clause-by_key : goal.returns-clause-by_key
returns-clause-by_key c = counts-by-key

pub returns-clause-page : goal.returns-clause-page
returns-clause-page c = entries-are-page

pub returns-clause-asked : goal.returns-clause-asked
returns-clause-asked c = entries-are-asked

pub returns-clause-fit : goal.returns-clause-fit
returns-clause-fit c = entries-fit

pub returns-clause-never_empty : goal.returns-clause-never_empty
returns-clause-never_empty c = never-empty

pub returns-clause-fewer : goal.returns-clause-fewer
returns-clause-fewer c = fewer-fit

pub returns-clause-as_far : goal.returns-clause-as_far
returns-clause-as_far c = entries-go-as-far

pub returns-clause-turns : goal.returns-clause-turns
returns-clause-turns c = turns-give-first

pub returns-clause-all_turns : goal.returns-clause-all_turns
returns-clause-all_turns c = turns-give-all
