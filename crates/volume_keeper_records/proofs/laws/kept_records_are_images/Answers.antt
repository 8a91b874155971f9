use Rattle.volume_keeper_records.proofs.laws.kept_records_are_images.Goals as goal
use Rattle.volume_keeper_records.proofs.ForkParts.{ForkLaw}
use Rattle.volume_keeper_records.proofs.ImageLaw.{kept_good, good_kept, kept_differ}

pub returns : goal.returns
returns c =
    let law : ForkLaw = record {
      back = c.blocks_are_bytes.ensures.back;
      forth = c.blocks_are_bytes.ensures.forth;
      size = c.blocks_are_bytes.ensures.length;
      rising = c.blocks_of_bytes_are_kept.ensures.rising;
      kept = c.blocks_of_bytes_are_kept.ensures.kept;
      few = c.blocks_of_bytes_are_kept.ensures.few;
    } in
    record { good = kept_good law; image = good_kept law; one = kept_differ law }
