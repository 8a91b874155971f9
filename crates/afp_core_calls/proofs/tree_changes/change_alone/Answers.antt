use Rattle.std.proofs.Common.{refl, None}
use Rattle.afp_replies.specs.declared.reply.Reply.TheVariants.{Empty}
use Rattle.afp_core_calls.proofs.tree_changes.change_alone.Goals as goal

pub returns : goal.returns
returns g c = c.change_tree.ensures c.requires.change (λ v. Empty) (λ w. None) c.requires.changes refl (λ v user there passes. c.new-nothing.ensures)
