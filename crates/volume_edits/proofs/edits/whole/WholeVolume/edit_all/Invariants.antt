use Rattle.std.proofs.Common.{◌≡◌, ◌≤◌, length, true}
use Rattle.std.specs.List.{list_all}
use Rattle.volume_spec.specs.Edit.{after_edits}
use Rattle.volume_spec.specs.EditLaws.{MayEditAll}
use Rattle.volume_spec.specs.EditRanges.{is_typed_edit}
use Rattle.volume_edits.specs.edits.Planned.{StandOn, all_take, edits_of}
use Rattle.volume_edits.proofs.edits.whole.WholeVolume.edit_all.Given as goal

abbrev pub decreases-loop-alloc : goal.decreases-loop-alloc
decreases-loop-alloc l = length l.rest.items

-- the edits that are left may be made, there is room for them, and they lead to the same volume
abbrev pub invariant-loop-alloc : goal.invariant-loop-alloc
invariant-loop-alloc l = record {
  may : MayEditAll l.self.state (edits_of l.rest.items);
  before : StandOn l.self.state l.rest.items;
  typed : list_all is_typed_edit (edits_of l.rest.items) ≡ true;
  few : all_take l.rest.items ≤ 1;
  room : all_take l.rest.items ≤ l.self.spare;
  same : after_edits l.self.state (edits_of l.rest.items) ≡ after_edits l.fn.self.state (edits_of l.fn.edits.items);
}
