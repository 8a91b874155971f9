use Rattle.std.proofs.Common.{◌∙◌, ap, sym}
use Rattle.std.specs.BTreeMap.{is_at}
use Rattle.std.specs.Map.{remove_entry}
use Rattle.fork_table.specs.lemma.Own.{own_cmp}
use Rattle.fork_table.specs.declared.own.OwnRef.{OwnRef}
use Rattle.fork_table.proofs.Owning.{own_less, own_same}
use Rattle.fork_table.proofs.rows.take_row.Goals as goal

pub returns-in_default-clause-own : goal.returns-in_default-clause-own
returns-in_default-clause-own c = own_same c.args.rows.now c.args.own.now c.requires c.args.r.0 (sym c.in_default.ensures.value) c.remove.ensures.entries

pub returns-clause-own : goal.returns-clause-own
returns-clause-own c =
    let taken = c.remove-2.ensures.entries ∙ ap (λ (k : OwnRef). remove_entry (is_at (own_cmp k)) c.args.own.now) c.own_ref.ensures in
    own_less c.args.rows.now c.args.own.now c.requires c.args.r.0 c.in-Some.row c.in-Some.ensures.value c.remove.ensures.entries taken
