use Rattle.std.proofs.Common.{sym, ◌∙◌}
use Rattle.std.proofs.lemmas.List.{drop_more, drop_all}
use Rattle.afp_replies.specs.declared.commands.Shape.TheVariants.{Unlisted}
use Rattle.afp_replies.specs.declared.commands.ShapeRow.{ShapeRow}
use Rattle.afp_replies.proofs.Finding.{in_this_row, not_in_this_row, in_no_row}
use Rattle.afp_replies.proofs.commands.shape_in.Goals as goal

abbrev none : ShapeRow
none = record { 0 = 0; 1 = Unlisted }

pub returns-then-row-command : goal.returns-then-row-command
returns-then-row-command c =
    let here = rw (drop_more c.args.rows.now c.loop-row.row-index none c.loop-row-test.true) at c.loop-row.invariant in
    sym (in_this_row _ _ _ c.if-row-command.true) ∙ here

pub loop-row-preserved : goal.loop-row-preserved
loop-row-preserved c =
    let here = rw (drop_more c.args.rows.now c.loop-row.row-index none c.loop-row-test.true) at c.loop-row.invariant in
    sym (not_in_this_row _ _ _ c.if-row-command.false) ∙ here

pub returns : goal.returns
returns c =
    let here = rw (drop_all c.loop-row.row-index c.args.rows.now c.loop-row-test.false) at c.loop-row.invariant in
    sym (in_no_row c.args.command) ∙ here
