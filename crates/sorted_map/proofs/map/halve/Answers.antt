use Rattle.std.proofs.Common.{rules}
use Rattle.std.proofs.lemmas.List.Sorted.{answers_always}
use Rattle.sorted_map.proofs.OfMap.Places.{searched}
use Rattle.sorted_map.proofs.map.halve.Goals as goal

pub returns-clause-found : goal.returns-clause-found
returns-clause-found g c =
    let facts = c.binary_search_by_key.ensures in
    let by_key = facts.position (λ e. e.0) (answers_always _ _ _ (λ f a r h called. search rules)) in
    (searched g.met.K.Ord.total c.args.entries.now c.args.key c.binary_search_by_key.result c.requires facts.bound by_key).0

pub returns-clause-absent : goal.returns-clause-absent
returns-clause-absent g c =
    let facts = c.binary_search_by_key.ensures in
    let by_key = facts.position (λ e. e.0) (answers_always _ _ _ (λ f a r h called. search rules)) in
    (searched g.met.K.Ord.total c.args.entries.now c.args.key c.binary_search_by_key.result c.requires facts.bound by_key).1
