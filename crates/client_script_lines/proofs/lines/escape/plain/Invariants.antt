use Rattle.std.proofs.Common.{◌≡◌, ◌++◌, length, List, ℕ, option_map}
use Rattle.client_script_lines.specs.lines.Words.{plain}
use Rattle.client_script_lines.proofs.lines.escape.plain.Given as goal

abbrev pub invariant-loop-rest : goal.invariant-loop-rest
invariant-loop-rest l = plain l.word ≡ option_map (λ (more : List ℕ). l.bytes ++ more) (plain l.rest)

abbrev pub decreases-loop-rest : goal.decreases-loop-rest
decreases-loop-rest l = length l.rest
