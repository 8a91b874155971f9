use Rattle.std.proofs.Common.{◌≡◌, ℕ, ◌<◌, false, get_or}
use Rattle.afp_outside.specs.lines.Lines.{is_newline}
use Rattle.afp_outside.proofs.lines.reading.first_line.Given as goal

abbrev pub invariant-loop-i : goal.invariant-loop-i
invariant-loop-i l = (k d : ℕ) → k < l.i → is_newline (get_or l.bytes k d) ≡ false
