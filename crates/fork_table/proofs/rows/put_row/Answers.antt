use Rattle.std.proofs.Common.{◌∙◌, ap}
use Rattle.std.specs.BTreeMap.{insert_entry, is_at}
use Rattle.std.specs.Map.{remove_entry}
use Rattle.fork_table.specs.lemma.Own.{own_cmp}
use Rattle.fork_table.specs.declared.own.OwnRef.{OwnRef}
use Rattle.fork_table.proofs.Keeping.{no_row}
use Rattle.fork_table.proofs.Owning.{own_more, own_undone}
use Rattle.fork_table.proofs.rows.put_row.Goals as goal

pub returns-in_default-insert-clause-err : goal.returns-in_default-insert-clause-err
returns-in_default-insert-clause-err c =
    let put = c.in-Ok.ensures.entries ∙ ap (λ k. insert_entry own_cmp c.args.own.now k tt) c.own_ref-entry.ensures in
    let taken = c.remove.ensures.entries ∙ ap (λ (k : OwnRef). remove_entry (is_at (own_cmp k)) c.insert.new.self) c.own_ref-entry.ensures in
    (c.in_default-insert.ensures.err, own_undone c.args.rows.now c.args.own.now c.requires.own c.args.r.0 c.args.row (no_row c.args.rows.now c.args.r.0 c.requires.new) put taken)

pub returns-clause-own : goal.returns-clause-own
returns-clause-own c =
    let put = c.in-Ok.ensures.entries ∙ ap (λ k. insert_entry own_cmp c.args.own.now k tt) c.own_ref-entry.ensures in
    own_more c.args.rows.now c.args.own.now c.requires.own c.args.r.0 c.args.row c.in-Ok-insert.ensures.was_sorted c.in-Ok.ensures.was_sorted (no_row c.args.rows.now c.args.r.0 c.requires.new)
    c.in-Ok-insert.ensures.entries put
