use Rattle.std.proofs.Common.{rules}
use Rattle.std.proofs.lemmas.List.Sorted.{IsPartitionPoint-from_clause}
use Rattle.volume_spec.specs.Order.{stands_before}
use Rattle.desktop_db.proofs.Heads.{heads-partition, partition-place}
use Rattle.desktop_db.proofs.Creators.{appls-climb}
use Rattle.desktop_db.proofs.appls.first_of.Goals as goal

pub returns-clause-place : goal.returns-clause-place
returns-clause-place c =
    partition-place (λ appl. stands_before appl.creator c.args.creator.now) c.args.appls.now c.partition_point.result c.partition_point.ensures.bound
    (IsPartitionPoint-from_clause (λ appl. stands_before appl.creator c.args.creator.now) c.args.appls.now c.partition_point.result c.partition_point.ensures.partitioned
    (heads-partition (λ appl. appl.creator) c.args.creator.now c.args.appls.now (appls-climb c.args.appls.now c.requires.formed c.requires.order)) (λ x r f k. search rules))
