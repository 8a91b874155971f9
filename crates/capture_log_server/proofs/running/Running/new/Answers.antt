use Rattle.std.proofs.Common.{refl}
use Rattle.capture_log_server.proofs.running.Running.new.Goals as goal

pub returns : goal.returns
returns g c = λ now fresh. record {
  serves = refl;
  start = fresh.start;
  history = fresh.history;
  size = c.in_ok-connections.ensures.size;
  connections = c.in_ok-connections.ensures.unused;
  links = refl;
  replies = refl;
  refused = refl;
}
