use Rattle.std.proofs.Common.{◌≤◌, subst, ℕ}
use Rattle.std.proofs.lemmas.Bool.{le-leb}
use Rattle.afp_serial.proofs.ranges.moment_in_range.Goals as goal

pub returns : goal.returns
returns c = le-leb c.args.now 2147483647 (subst (λ (n : ℕ). n ≤ 2147483647) c.seconds-seconds.ensures.value c.seconds-seconds.ensures.fits)
