use Rattle.std.proofs.Common.{take}
use Rattle.volume_changes.specs.steps.lemma.Put.{IsWith, mapping_key}
use Rattle.volume_changes.specs.steps.lemma.Touching.{mappings_to}
use Rattle.volume_changes.proofs.steps.touched.put_all_to.Given as goal

abbrev pub invariant-loop-i : goal.invariant-loop-i
invariant-loop-i l = IsWith mapping_key (mappings_to l.node.0 (take l.i l.appls)) l.fn.mappings.items l.mappings.items
