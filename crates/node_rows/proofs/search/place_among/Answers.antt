use Rattle.std.proofs.Common.{ℕ, ◌-◌, take, drop, length, List, arith}
use Rattle.std.proofs.lemmas.List.{take_all, length-drop}
use Rattle.node_rows.specs.declared.child.Child.{Child}
use Rattle.node_rows.proofs.Leaving.{found-behind}
use Rattle.node_rows.proofs.search.place_among.Goals as goal

pub returns-clause-within : goal.returns-clause-within
returns-clause-within c =
    let cs : List Child = c.args.children.now in
    let first : ℕ = c.child_place-first.result in
    (found-behind c.args.parent.0 c.args.id.0 cs (take (length cs - first) (drop first cs)) first c.unwrap_or.result c.place_of_id.result c.child_place-first.ensures.place
    (take_all (length cs - first) (drop first cs) (omega (arith, length-drop first cs))) c.place_of_id.ensures c.unwrap_or.ensures c.requires.one c.requires.there).0

pub returns-clause-others : goal.returns-clause-others
returns-clause-others c =
    let cs : List Child = c.args.children.now in
    let first : ℕ = c.child_place-first.result in
    (found-behind c.args.parent.0 c.args.id.0 cs (take (length cs - first) (drop first cs)) first c.unwrap_or.result c.place_of_id.result c.child_place-first.ensures.place
    (take_all (length cs - first) (drop first cs) (omega (arith, length-drop first cs))) c.place_of_id.ensures c.unwrap_or.ensures c.requires.one c.requires.there).1
