use Rattle.std.proofs.Common.{◌≡◌, ◌∙◌, ◌+◌, ◌<◌, ◌≤◌, ◌++◌, ◌∷◌, ℕ, List, true, cond, map, take, drop, insert, length, ap, vec_len, vec_capacity, arith}
use Rattle.node_rows.specs.lemma.Kinds.{kinds_of, many, one_if, raised}
use Rattle.node_rows.proofs.KindCounts.{counts-fit, many-within, at-most-one, put-between, put-is}
use Rattle.node_rows.proofs.kinds.put_kind.Goals as goal

pub overflow_add-here : goal.overflow_add-here
overflow_add-here c =
    let few : one_if c.args.file ≤ 1 = at-most-one c.args.file in
    let size : length c.as_slice.result.now ≡ length c.args.files.now.items = ap length c.as_slice.ensures.value in
    omega (arith, many-within true c.args.place (kinds_of 0 c.as_slice.result.now), c.before-2.ensures, c.one_if-more.ensures, c.requires.within, c.as_slice.type_inv)

pub raise_from-requires-clause-fits : goal.raise_from-requires-clause-fits
raise_from-requires-clause-fits c =
    let few : one_if c.args.file ≤ 1 = at-most-one c.args.file in
    counts-fit c.args.files.now.items c.args.place c.one_if-more.result c.requires.counts (let size : length c.as_slice.result.now ≡ length c.args.files.now.items = ap length c.as_slice.ensures.value in omega (arith, c.one_if-more.ensures, c.as_slice.type_inv))

pub returns-clause-items : goal.returns-clause-items
returns-clause-items c =
    let counts : List ℕ = c.args.files.now.items in
    let here : ℕ = c.before-2.result + c.one_if-more.result in
    let here_is : here ≡ many true (take c.args.place (kinds_of 0 counts)) + one_if c.args.file =
    λ i. (c.before-2.ensures ∙ ap (λ l. many true (take c.args.place (kinds_of 0 l))) c.as_slice.ensures.value) i + c.one_if-more.ensures i in
    let room : vec_len c.raise_from.new.numbers < vec_capacity c.raise_from.new.numbers = omega (arith, c.requires.room, c.raise_from.ensures.len, c.raise_from.ensures.capacity) in
    c.insert.ensures.items ∙ ap (λ t. cond t (insert c.raise_from.new.numbers.items c.args.place here) c.raise_from.new.numbers.items) (c.insert.ensures.succeeds room)
    ∙ ap (λ l. insert l c.args.place here) c.raise_from.ensures.items
    ∙ put-between counts (map (raised c.one_if-more.result) (drop c.args.place counts)) c.args.place here c.requires.within
    ∙ ap (λ m. take c.args.place counts ++ here ∷ map (raised m) (drop c.args.place counts)) c.one_if-more.ensures
    ∙ put-is counts c.args.place here c.args.file c.requires.counts c.requires.within here_is
