use Rattle.volume_changes.proofs.records.laws.calls_change_exactly.Goals as goal
use Rattle.volume_keeper_records.proofs.ForkParts.{ForkLaw}
use Rattle.volume_changes.proofs.OfRecords.Calling.{calls-change, calls-exact}

pub returns : goal.returns
returns c =
    let law : ForkLaw = record {
      back = c.blocks_are_bytes.ensures.back;
      forth = c.blocks_are_bytes.ensures.forth;
      size = c.blocks_are_bytes.ensures.length;
      rising = c.blocks_of_bytes_are_kept.ensures.rising;
      kept = c.blocks_of_bytes_are_kept.ensures.kept;
      few = c.blocks_of_bytes_are_kept.ensures.few;
    } in
    record { made = calls-change law c.edits_touch_their_own.ensures.edits c.edits_keep_volumes_sound.ensures.call; exact = calls-exact law c.edits_touch_their_own.ensures.edits c.edits_keep_volumes_sound.ensures.call }
