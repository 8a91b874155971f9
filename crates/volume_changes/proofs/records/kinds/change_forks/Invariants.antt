use Rattle.std.proofs.Common.{◌≡◌, ◌++◌, take}
use Rattle.std.specs.Prelude.{flat_map}
use Rattle.volume_keeper_records.specs.Image.{kept_image}
use Rattle.volume_changes.specs.records.Touched.{fork_keys}
use Rattle.volume_changes.specs.records.Differences.{differences}
use Rattle.volume_changes.proofs.records.kinds.change_forks.Given as goal

abbrev pub invariant-loop-i : goal.invariant-loop-i
invariant-loop-i g l = l.changes.items ≡ l.fn.changes.items ++ differences (flat_map fork_keys (take l.i l.forks)) (kept_image (g.S.Transition.before l.step)) (kept_image (g.S.Transition.after l.step))
