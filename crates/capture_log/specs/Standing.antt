-- What is told of where a capture stands (this profile).
use Rattle.std.specs.Prelude.{ℕ, List, length, drop, Option, Some, None, option_map}
use Rattle.afp_serial.specs.History.{stand}
use Rattle.afp_serial.specs.World.{fresh_world, volume_at}
use Rattle.capture_log_server.specs.CaptureState.{CaptureState}
use Rattle.capture_log_server.specs.Connections.{Connection, output}

-- what of the output of a connection was not compared yet
abbrev pub uncompared : Connection → List ℕ
uncompared c = drop c.named (output c)

-- how many nodes the volume of an id has in the world that the history makes; none before something has happened
abbrev pub nodes_from : Option ℕ → CaptureState → ℕ → Option ℕ
nodes_from None s volume = None
nodes_from (Some first) s volume = option_map (λ v. length v.rows) (volume_at (stand (fresh_world s.house first) s.history).volumes volume)

abbrev pub nodes_of : CaptureState → ℕ → Option ℕ
nodes_of s volume = nodes_from s.start s volume
