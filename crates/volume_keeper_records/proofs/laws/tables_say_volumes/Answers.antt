use Rattle.volume_keeper_records.proofs.laws.tables_say_volumes.Goals as goal
use Rattle.volume_keeper_records.proofs.ForkParts.{ForkLaw}
use Rattle.volume_keeper_records.proofs.ImageClear.{volume_again}
use Rattle.std.proofs.Common.{refl, sym}
use Rattle.volume_keeper_records.specs.Records.{old_version}

pub returns : goal.returns
returns c =
    let law : ForkLaw = record {
      back = c.blocks_are_bytes.ensures.back;
      forth = c.blocks_are_bytes.ensures.forth;
      size = c.blocks_are_bytes.ensures.length;
      rising = c.blocks_of_bytes_are_kept.ensures.rising;
      kept = c.blocks_of_bytes_are_kept.ensures.kept;
      few = c.blocks_of_bytes_are_kept.ensures.few;
    } in
    record { tables = λ v sound. volume_again 2 law v sound refl; old = λ v sound is_old. volume_again old_version law v sound (sym is_old) }
