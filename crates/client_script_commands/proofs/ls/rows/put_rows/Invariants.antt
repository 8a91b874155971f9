use Rattle.std.proofs.Common.{◌≡◌, ◌++◌, length}
use Rattle.client_script_commands.specs.ls.Ls.{rows_text}
use Rattle.client_script_commands.proofs.ls.rows.put_rows.Given as goal

abbrev pub invariant-loop-rest : goal.invariant-loop-rest
invariant-loop-rest l = l.text ++ rows_text l.rest ≡ l.initial.text ++ rows_text l.rows

abbrev pub decreases-loop-rest : goal.decreases-loop-rest
decreases-loop-rest l = length l.rest
