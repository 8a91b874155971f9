use Rattle.std.proofs.Common.{ap, ◌∙◌}
use Rattle.capture_log_server.specs.States.{RunningState}
use Rattle.capture_log_server.proofs.RunningLemmas.{uncompared-there}
use Rattle.capture_log_server.proofs.running.Running.uncompared.Goals as goal

pub returns : goal.returns
returns g c = λ s first is.
    uncompared-there c.args.self.now s first c.args.index c.as_slice.result.now c.uncompared_at.result.now is c.requires
    (c.as_slice.ensures.value ∙ ap (λ (x : RunningState). x.connections) c.self.view_is) c.uncompared_at.ensures
