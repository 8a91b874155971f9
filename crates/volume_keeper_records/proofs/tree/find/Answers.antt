use Rattle.std.proofs.Common.{◌≡◌, ◌<◌, ◌≤◌, map, length, get_or, sym, ap, ◌∙◌, subst, rules}
use Rattle.std.specs.List.Sorted.{IsStrictlySortedBy}
use Rattle.std.specs.Ordering.{nat_cmp}
use Rattle.volume_keeper_records.specs.lemma.Climb.{id_of, place_in}
use Rattle.volume_keeper_records.specs.declared.tree.Place.{Place}
use Rattle.volume_keeper_records.proofs.Climbing.{not_there, at_place}
use Rattle.volume_keeper_records.proofs.tree.find.Goals as goal

pub returns-then-at-len : goal.returns-then-at-len
returns-then-at-len c =
    let at_is : c.place_in_ids-at.result ≡ place_in (map id_of c.args.tree.now.places.items) c.args.id = search (rules, c.requires.ids) in
    let order : IsStrictlySortedBy nat_cmp (map id_of c.args.tree.now.places.items) = subst (IsStrictlySortedBy nat_cmp) c.requires.ids c.requires.order in
    let d : Place = c.index.result.now in
    let read : c.index.result.now ≡ get_or c.args.tree.now.places.items c.place_in_ids-at.result c.index.result.now = c.index.ensures in
    λ test.
    at_place c.args.id test c.args.tree.now.places.items order c.index.result.now
    (let h : c.place_in_ids-at.result < length c.args.tree.now.places.items = search rules in subst (λ i. i < length c.args.tree.now.places.items) at_is h)
    ∙ ap (λ i. test (get_or c.args.tree.now.places.items i c.index.result.now)) (sym at_is) ∙ ap test (sym read)

pub returns-else-at-len : goal.returns-else-at-len
returns-else-at-len c =
    let at_is : c.place_in_ids-at.result ≡ place_in (map id_of c.args.tree.now.places.items) c.args.id = search (rules, c.requires.ids) in
    let order : IsStrictlySortedBy nat_cmp (map id_of c.args.tree.now.places.items) = subst (IsStrictlySortedBy nat_cmp) c.requires.ids c.requires.order in
    λ test.
    not_there c.args.id test c.args.tree.now.places.items order
    (let h : length c.args.tree.now.places.items ≤ c.place_in_ids-at.result = search rules in subst (λ i. length c.args.tree.now.places.items ≤ i) at_is h)
