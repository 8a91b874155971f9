use Rattle.std.proofs.Common.{◌≡◌, true, take}
use Rattle.std.specs.List.{list_all}
use Rattle.volume_changes.specs.records.TouchedOrder.{is_fit_mapping}
use Rattle.volume_changes.proofs.records.touched.mappings_in_range.Given as goal

abbrev pub invariant-loop-i : goal.invariant-loop-i
invariant-loop-i l = list_all is_fit_mapping (take l.i l.mappings) ≡ true
