use Rattle.volume_keeper_records.proofs.ForkParts.{ForkLaw}
use Rattle.volume_changes.proofs.OfRecords.Changing.{facts}
use Rattle.volume_changes.proofs.OfRecords.Segments.{comment_value, head_at, icon_value, node_at}
use Rattle.volume_changes.proofs.OfRecords.Standing.{appl_stands, block_stands}
use Rattle.volume_changes.proofs.records.laws.records_are_found.Goals as goal

pub returns : goal.returns
returns c =
    let law : ForkLaw = record {
      back = c.blocks_are_bytes.ensures.back;
      forth = c.blocks_are_bytes.ensures.forth;
      size = c.blocks_are_bytes.ensures.length;
      rising = c.blocks_of_bytes_are_kept.ensures.rising;
      kept = c.blocks_of_bytes_are_kept.ensures.kept;
      few = c.blocks_of_bytes_are_kept.ensures.few;
    } in
    record {
      head = λ v sound. head_at v (facts law v sound);
      nodes = λ v id sound few. node_at v id (facts law v sound) few;
      blocks = λ v id resource index sound few low. block_stands v id resource index (facts law v sound) few low;
      comments = λ v node sound few. comment_value v node (facts law v sound) few;
      icons = λ v key sound. icon_value v key (facts law v sound);
      appls = λ v creator node sound four few. appl_stands v creator node (facts law v sound) four few;
    }
