use Rattle.std.proofs.Common.{rules}
use Rattle.std.proofs.lemmas.List.Sorted.{IsPartitionPoint-from_clause}
use Rattle.volume_spec.specs.Order.{stands_before}
use Rattle.desktop_db.proofs.Heads.{heads-partition, partition-place}
use Rattle.desktop_db.proofs.Creators.{icons-climb}
use Rattle.desktop_db.proofs.icons.first_of.Goals as goal

pub returns-clause-place : goal.returns-clause-place
returns-clause-place c =
    partition-place (λ icon. stands_before icon.creator c.args.creator.now) c.args.icons.now c.partition_point.result c.partition_point.ensures.bound
    (IsPartitionPoint-from_clause (λ icon. stands_before icon.creator c.args.creator.now) c.args.icons.now c.partition_point.result c.partition_point.ensures.partitioned
    (heads-partition (λ icon. icon.creator) c.args.creator.now c.args.icons.now (icons-climb c.args.icons.now c.requires.formed c.requires.order)) (λ x r f k. search rules))
