use Rattle.std.proofs.Common.{◌≡◌, ◌++◌, length}
use Rattle.client_script_lines.specs.texts.Texts.{shown}
use Rattle.client_script_lines.proofs.texts.shown.put_shown.Given as goal

abbrev pub invariant-loop-rest : goal.invariant-loop-rest
invariant-loop-rest l = l.out ++ shown l.rest ≡ l.initial.out ++ shown l.text

abbrev pub decreases-loop-rest : goal.decreases-loop-rest
decreases-loop-rest l = length l.rest
