use Rattle.volume_spec.proofs.Listings.{lists-once, lists-by-key, lists-no-other, pages-are-list}
use Rattle.volume_spec.proofs.laws.lists_have_each_child_once.Goals as goal

pub returns-clause-once : goal.returns-clause-once
returns-clause-once c = lists-once

pub returns-clause-by_key : goal.returns-clause-by_key
returns-clause-by_key c = lists-by-key

pub returns-clause-no_other : goal.returns-clause-no_other
returns-clause-no_other c = lists-no-other

pub returns-clause-pages : goal.returns-clause-pages
returns-clause-pages c = pages-are-list
