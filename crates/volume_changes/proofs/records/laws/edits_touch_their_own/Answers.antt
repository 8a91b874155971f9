use Rattle.volume_spec.specs.Edit.{after_call}
use Rattle.volume_changes.specs.records.EditTouches.{all_touched}
use Rattle.volume_changes.specs.records.Laws.{EditsAreWithin}
use Rattle.volume_changes.proofs.OfRecords.Calling.{call-within, wider}
use Rattle.volume_changes.proofs.OfRecords.EditsWithin.{edits-within}
use Rattle.volume_changes.proofs.records.laws.edits_touch_their_own.Goals as goal

pub returns : goal.returns
returns c =
    let edits : EditsAreWithin = edits-within (record { icon = c.what_was_put_is_found.ensures.icon; appl = c.what_was_put_is_found.ensures.appl; appl_taken = c.what_was_put_is_found.ensures.appl_taken }) in
    record { edits = edits; call = λ v now es t has. wider t (all_touched v es) v (after_call v now es) has (call-within edits v now es) }
