use Rattle.std.proofs.Common.{◌∙◌, map, length, ap, arith}
use Rattle.volume_keeper_records.specs.lemma.Raising.{raised}
use Rattle.volume_keeper_records.proofs.RaisedRows.{lent_back, raised_rows}
use Rattle.volume_keeper_records.proofs.migration.raise_rows.Goals as goal

pub returns : goal.returns
returns c = λ v is older.
    let new = c.raise_all.new.rows in
    let items = c.args.rows.now.items in
    lent_back c.args.rows.now.len new items (c.raise_all.auto.rows ∙ ap length c.as_mut_slice.ensures.value) (omega (arith, c.as_mut_slice.ensures.len, ap length c.as_mut_slice.ensures.value))
    ∙ c.raise_all.ensures ∙ ap (map raised) (c.as_mut_slice.ensures.value ∙ is) ∙ raised_rows v older
