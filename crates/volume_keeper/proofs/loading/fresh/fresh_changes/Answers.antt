use Rattle.std.proofs.Common.{◌∙◌, ◌++◌, ◌∷◌, [], ap}
use Rattle.record_keeper.specs.declared.record.Change.TheVariants.{Put}
use Rattle.volume_keeper_records.specs.Records.{head_record, node_record}
use Rattle.volume_keeper.proofs.loading.fresh.fresh_changes.Goals as goal

pub returns : goal.returns
returns c =
    let head = c.in_ok-head_record.ensures ∙ ap head_record (c.head_of-head.ensures c.args.name.now) in
    let root = c.in_ok-node_record.ensures ∙ ap node_record c.in_ok-root.ensures in
    let one = c.in_ok-put.ensures ∙ (λ i. c.new-changes.ensures.items i ++ Put (head i).key (head i).value ∷ []) in
    c.in_ok-put-2.ensures ∙ (λ i. one i ++ Put (root i).key (root i).value ∷ [])
