use Rattle.std.proofs.Common.{◌∙◌, ◌-◌, ◌++◌, ℕ, List, true, map, take, drop, ap}
use Rattle.std.specs.List.{list_all}
use Rattle.node_rows.specs.lemma.Kinds.{is_at_least, kinds_of, lowered, many}
use Rattle.node_rows.proofs.KindCounts.{drop-taken, take-taken, taken-is}
use Rattle.node_rows.proofs.kinds.take_kind.Goals as goal

pub overflow_sub-here : goal.overflow_sub-here
overflow_sub-here c =
    (taken-is c.args.files.now.items c.args.place c.before-before.result c.remove-here.result c.requires.counts c.requires.within
    (c.before-before.ensures ∙ ap (λ l. many true (take c.args.place (kinds_of 0 l))) c.as_slice.ensures.value) c.remove-here.ensures.value).low

pub lower_from-requires-clause-fits : goal.lower_from-requires-clause-fits
lower_from-requires-clause-fits c =
    let counts : List ℕ = c.args.files.now.items in
    let less : ℕ = c.remove-here.result - c.before-before.result in
    ap (λ l. list_all (is_at_least less) l) (ap (drop c.args.place) c.remove-here.ensures.items ∙ drop-taken counts c.args.place c.requires.within)
    ∙ (taken-is counts c.args.place c.before-before.result c.remove-here.result c.requires.counts c.requires.within
    (c.before-before.ensures ∙ ap (λ l. many true (take c.args.place (kinds_of 0 l))) c.as_slice.ensures.value) c.remove-here.ensures.value).least

pub returns-clause-items : goal.returns-clause-items
returns-clause-items c =
    let counts : List ℕ = c.args.files.now.items in
    let less : ℕ = c.remove-here.result - c.before-before.result in
    c.lower_from.ensures.items
    ∙ (λ i. (ap (take c.args.place) c.remove-here.ensures.items ∙ take-taken counts c.args.place c.requires.within) i
    ++ map (lowered less) ((ap (drop c.args.place) c.remove-here.ensures.items ∙ drop-taken counts c.args.place c.requires.within) i))
    ∙ (taken-is counts c.args.place c.before-before.result c.remove-here.result c.requires.counts c.requires.within
    (c.before-before.ensures ∙ ap (λ l. many true (take c.args.place (kinds_of 0 l))) c.as_slice.ensures.value) c.remove-here.ensures.value).taken
