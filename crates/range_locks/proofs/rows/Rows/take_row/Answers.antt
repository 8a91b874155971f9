use Rattle.std.proofs.Common.{◌∙◌, ap, subst}
use Rattle.std.specs.Prelude.{Some}
use Rattle.std.specs.List.{remove}
use Rattle.range_locks.specs.lemma.Seen.{IsRowPlace}
use Rattle.range_locks.proofs.Looking.{row_gone, rows_stay}
use Rattle.range_locks.proofs.rows.Rows.take_row.Goals as goal

pub returns-in-Some : goal.returns-in-Some
returns-in-Some c =
    let there = subst (λ l. IsRowPlace l c.args.row (Some c.in-Some.place)) (c.as_slice.ensures.value ∙ c.self.view_is) c.in-Some.ensures in
    c.remove.ensures.items ∙ ap (λ l. remove l c.in-Some.place) c.self.view_is ∙ row_gone c.args.self.now c.args.row c.in-Some.place c.requires there

pub returns-in-None : goal.returns-in-None
returns-in-None c = rows_stay c.args.row (c.as_slice.ensures.value ∙ c.self.view_is) c.in-None.ensures
