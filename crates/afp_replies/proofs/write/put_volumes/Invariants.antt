use Rattle.std.proofs.Common.{◌≡◌, ◌≤◌, ◌++◌, drop, length, map}
use Rattle.std.specs.List.{concat, AllByRecursion}
use Rattle.afp_replies.specs.Replies.{volume_bytes}
use Rattle.afp_replies.specs.Fitting.{FitsVolume}
use Rattle.afp_base.specs.Appended.{Keeps}
use Rattle.afp_replies.proofs.write.put_volumes.Given as goal

-- the volumes to come behind these bytes are all volumes, and they fit
abbrev pub invariant-loop-volume : goal.invariant-loop-volume
invariant-loop-volume l = record {
  whole : l.out ++ concat (map volume_bytes (drop l.volume-index l.volumes)) ≡ l.initial.out ++ concat (map volume_bytes l.volumes);
  keeps : Keeps l.initial.out l.out;
  begun : length l.initial.out ≤ length l.out;
  fits : AllByRecursion FitsVolume (drop l.volume-index l.volumes);
}
