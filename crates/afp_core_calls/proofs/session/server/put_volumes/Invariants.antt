use Rattle.std.proofs.Common.{◌≡◌, ◌++◌, take, flat_map}
use Rattle.afp_replies.specs.Replies.{volume_bytes}
use Rattle.afp_serial.specs.GetSrvrParms.{volume_entry}
use Rattle.afp_core_calls.proofs.session.server.put_volumes.Given as goal

abbrev pub invariant-loop-volume : goal.invariant-loop-volume
invariant-loop-volume l = l.block ≡ l.initial.block ++ flat_map (λ name. volume_bytes (volume_entry name)) (take l.volume-index l.volumes)
