use Rattle.std.proofs.Common.{ap, ◌∙◌, length}
use Rattle.std.specs.Prelude.{option_map}
use Rattle.afp_serial.specs.World.{World, volume_at}
use Rattle.capture_log_server.specs.States.{RunningState}
use Rattle.capture_log_server.proofs.RunningLemmas.{world-there}
use Rattle.capture_log_server.proofs.running.Running.nodes.Goals as goal

pub returns : goal.returns
returns g c = λ s first is.
    c.nodes.ensures ∙ ap (λ (w : World). option_map (λ v. length v.rows) (volume_at w.volumes c.args.volume.0))
    (world-there c.args.self.now s first _ is (ap (λ (x : RunningState). x.teller) c.self.view_is))
