use Rattle.volume_keeper_records.proofs.laws.records_are_images.Goals as goal
use Rattle.volume_keeper_records.proofs.ForkParts.{ForkLaw}
use Rattle.volume_keeper_records.proofs.ImageLaw.{images_rise, images_good, good_images, images_differ, old_good}

pub returns : goal.returns
returns c =
    let law : ForkLaw = record {
      back = c.blocks_are_bytes.ensures.back;
      forth = c.blocks_are_bytes.ensures.forth;
      size = c.blocks_are_bytes.ensures.length;
      rising = c.blocks_of_bytes_are_kept.ensures.rising;
      kept = c.blocks_of_bytes_are_kept.ensures.kept;
      few = c.blocks_of_bytes_are_kept.ensures.few;
    } in
    record { rising = images_rise law; good = images_good law; old = old_good law; image = good_images law; one = images_differ law }
