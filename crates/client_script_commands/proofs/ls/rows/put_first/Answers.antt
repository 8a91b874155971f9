use Rattle.std.proofs.Common.{◌≡◌, List, ◌++◌, sym, subst}
use Rattle.afp_replies.specs.declared.list.ListEntry.{ListEntry}
use Rattle.client_script_commands.specs.ls.Ls.{rows_text}
use Rattle.client_script_commands.proofs.OfLs.RowLemmas.{first_row, rest_is}
use Rattle.client_script_commands.proofs.ls.rows.put_first.Goals as goal

pub returns-clause-text : goal.returns-clause-text
returns-clause-text c =
    subst (λ (rest : List ListEntry). c.put_node.new.text ++ rows_text rest ≡ c.args.text.now ++ rows_text c.args.rows.now) (sym (rest_is c.args.rows.now c.requires))
    (first_row c.args.rows.now c.index-rows-0.result c.args.text.now c.put_node.new.text c.requires c.index-rows-0.is c.in_ok-put_node.ensures)
