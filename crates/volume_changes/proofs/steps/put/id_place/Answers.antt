use Rattle.std.proofs.Common.{rules}
use Rattle.std.specs.Cmp.Lexicographic.{slice_cmp}
use Rattle.std.specs.Ordering.{nat_cmp}
use Rattle.std.proofs.lemmas.Fn.{always_returns_same}
use Rattle.desktop_db.proofs.Places.{searched}
use Rattle.volume_changes.specs.steps.lemma.Put.{id_key}
use Rattle.volume_changes.proofs.steps.put.id_place.Goals as goal

pub returns-clause-found : goal.returns-clause-found
returns-clause-found c =
    let facts = c.binary_search_by.ensures in
    let by_key = facts.position (λ other. slice_cmp nat_cmp (id_key other) (id_key c.args.id)) (always_returns_same _ _ _ (λ a r h called. (search rules, search rules))) in
    (searched id_key (id_key c.args.id) c.args.ids.now c.binary_search_by.result c.requires facts.bound by_key).0

pub returns-clause-gap : goal.returns-clause-gap
returns-clause-gap c =
    let facts = c.binary_search_by.ensures in
    let by_key = facts.position (λ other. slice_cmp nat_cmp (id_key other) (id_key c.args.id)) (always_returns_same _ _ _ (λ a r h called. (search rules, search rules))) in
    (searched id_key (id_key c.args.id) c.args.ids.now c.binary_search_by.result c.requires facts.bound by_key).1
