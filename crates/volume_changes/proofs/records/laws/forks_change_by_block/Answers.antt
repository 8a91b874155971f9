use Rattle.volume_keeper_records.proofs.ForkParts.{ForkLaw}
use Rattle.volume_changes.proofs.OfRecords.Changing.{facts, fork_small}
use Rattle.volume_changes.proofs.OfRecords.Standing.{fork_changes}
use Rattle.volume_changes.proofs.records.laws.forks_change_by_block.Goals as goal

pub returns : goal.returns
returns c =
    let law : ForkLaw = record {
      back = c.blocks_are_bytes.ensures.back;
      forth = c.blocks_are_bytes.ensures.forth;
      size = c.blocks_are_bytes.ensures.length;
      rising = c.blocks_of_bytes_are_kept.ensures.rising;
      kept = c.blocks_of_bytes_are_kept.ensures.kept;
      few = c.blocks_of_bytes_are_kept.ensures.few;
    } in
    λ v w place sound next few. fork_changes v w place (facts law v sound) (facts law w next) (fork_small v place.node place.resource sound) (fork_small w place.node place.resource next) few
