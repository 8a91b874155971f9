use Rattle.std.proofs.Common.{◌≡◌, map, take}
use Rattle.afpd_lib.proofs.server.house.volume_names.Given as goal

abbrev pub invariant-loop-volume : goal.invariant-loop-volume
invariant-loop-volume l = l.names.items ≡ map (λ volume. volume.name.now) (take l.volume-index l.volumes)
