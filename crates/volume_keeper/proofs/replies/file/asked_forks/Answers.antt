use Rattle.std.proofs.Common.{◌∙◌, ap, sym}
use Rattle.std.specs.Option.{option_copied}
use Rattle.volume_spec.specs.NodeValues.{file_values}
use Rattle.volume_spec.specs.VolumeState.{Row}
use Rattle.volume_keeper.proofs.OfReplies.Limits.{forks-small, not-told, with-whole}
use Rattle.std.specs.Prelude.{None}
use Rattle.volume_keeper.proofs.replies.file.asked_forks.Goals as goal

pub returns-then-asks_length-clause-small : goal.returns-then-asks_length-clause-small
returns-then-asks_length-clause-small c resource = forks-small c.args.volume.now.state c.args.node.now.id resource (option_copied c.forks.result) c.keeps_sound.ensures (c.forks.ensures resource)

pub returns-then-asks_length-clause-values : goal.returns-then-asks_length-clause-values
returns-then-asks_length-clause-values c opens =
    ap (λ (row : Row). file_values opens c.args.bits row) (with-whole c.args.volume.now.state.rows c.args.node.now (option_copied c.forks.result) c.forks.ensures)

pub returns-else-asks_length-clause-values : goal.returns-else-asks_length-clause-values
returns-else-asks_length-clause-values c opens = not-told opens c.args.bits c.args.volume.now.state.rows c.args.node.now None (sym c.asks_length.ensures ∙ c.if-asks_length.false)
