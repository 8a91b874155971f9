use Rattle.std.proofs.Common.{ap, ◌∙◌}
use Rattle.capture_log_server.specs.States.{RunningState}
use Rattle.capture_log_server.proofs.RunningLemmas.{lost-there}
use Rattle.capture_log_server.proofs.running.Running.is_lost.Goals as goal

pub returns : goal.returns
returns g c = λ s first is.
    lost-there c.args.self.now s first c.args.index c.as_slice.result.now c.is_lost_at.result is c.requires
    (c.as_slice.ensures.value ∙ ap (λ (x : RunningState). x.connections) c.self.view_is) c.is_lost_at.ensures
