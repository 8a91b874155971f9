use Rattle.std.proofs.Common.{◌≡◌, ◌∙◌, ◌++◌, ◌∷◌, [], List, ℕ, ap, subst, if◌then◌else◌}
use Rattle.std.specs.Prelude.{OnOk}
use Rattle.fork_bytes.specs.Kept.{is_empty}
use Rattle.record_keeper.specs.declared.record.Change.{Change}
use Rattle.record_keeper.specs.declared.record.Change.TheVariants.{Put, Remove}
use Rattle.volume_changes.proofs.records.noting.change_block.Goals as goal

pub returns : goal.returns
returns c =
    subst (λ (change : Change). OnOk c.push.result (c.push.new.changes.items ≡ c.args.changes.now.items ++ change ∷ []))
    (c.change_of.ensures ∙ ap (λ (k : List ℕ). if is_empty c.args.block.bytes then Remove k else Put k c.args.block.bytes) c.in_ok-key.ensures)
    c.push.ensures
