use Rattle.std.proofs.Common.{◌++◌, [], List, sym, ap, ◌∙◌}
use Rattle.std.specs.List.{cons_option}
use Rattle.volume_keeper_records.specs.declared.rows.TableRow.{TableRow}
use Rattle.volume_keeper_records.proofs.Passing.{said_push, said_none}
use Rattle.volume_keeper_records.proofs.load.collect.Goals as goal

pub loop-row-init : goal.loop-row-init
loop-row-init c = c.new-list.ensures.items ∙ said_none

pub loop-row-preserved : goal.loop-row-preserved
loop-row-preserved c = c.in_ok-put_row.ensures ∙ ap (λ (l : List TableRow). l ++ cons_option c.in-Some.row []) c.loop-row.invariant ∙ sym (said_push c.loop-row.yielded c.in-Some.row)
