use Rattle.std.proofs.Common.{None, refl}
use Rattle.test_runs.specs.declared.one_session.Opened.{Opened}
use Rattle.test_runs.proofs.Telling.{sound-at}
use Rattle.test_runs.proofs.one_session.OneSession.new.Goals as goal

pub invariant_of-result : goal.invariant_of-result
invariant_of-result c = record {
  ranges = refl;
  sound_at = sound-at (λ (s : Opened). s.at) (λ (s : Opened). s.link) (λ (s : Opened). s.attention) None refl;
}
