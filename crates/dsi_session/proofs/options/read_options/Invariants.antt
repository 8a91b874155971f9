use Rattle.std.proofs.Common.{◌≡◌, length, ◌-◌}
use Rattle.dsi_session.proofs.OptionLemmas.{HasRead}
use Rattle.dsi_session.proofs.options.read_options.Given as goal

abbrev pub invariant-loop-scan : goal.invariant-loop-scan
invariant-loop-scan l = (l.scan.bytes ≡ l.payload) × HasRead l.payload l.scan.place l.attention

abbrev pub decreases-loop-scan : goal.decreases-loop-scan
decreases-loop-scan l = length l.payload - l.scan.place
