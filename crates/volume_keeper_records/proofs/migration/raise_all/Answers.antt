use Rattle.std.proofs.Common.{◌≡◌, ◌∙◌, ◌<◌, ◌++◌, length, map, take, drop, get_or, set, ap, rules}
use Rattle.volume_keeper_records.specs.lemma.Raising.{raised}
use Rattle.volume_keeper_records.proofs.RaisedRows.{turned_more}
use Rattle.volume_keeper_records.proofs.migration.raise_all.Goals as goal

pub loop-i-preserved : goal.loop-i-preserved
loop-i-preserved c =
    let rows = c.args.rows.now in
    let i = c.loop-i.i in
    let d = c.index-rows-i.result in
    let within : i < length rows = search rules in
    let so_far : c.loop-i.rows ≡ map raised (take i rows) ++ drop i rows = c.loop-i.invariant in
    ap (set c.loop-i.rows i) c.raise_row.ensures ∙ (λ k. set (so_far k) i (raised (get_or (so_far k) i d))) ∙ turned_more raised rows i d within
