use Rattle.std.proofs.Common.{◌≡◌, ◌++◌, map, take}
use Rattle.volume_keeper_records.specs.Image.{kept_image}
use Rattle.volume_keeper_records.specs.Records as records
use Rattle.volume_changes.specs.declared.records.touched.Mapping.{Mapping}
use Rattle.volume_changes.specs.records.Differences.{differences}
use Rattle.volume_changes.proofs.records.kinds.change_appls.Given as goal

abbrev pub invariant-loop-i : goal.invariant-loop-i
invariant-loop-i g l = l.changes.items ≡ l.fn.changes.items ++ differences (map (λ (m : Mapping). records.appl_record_key m.creator m.node) (take l.i l.mappings)) (kept_image (g.S.Transition.before l.step)) (kept_image (g.S.Transition.after l.step))
