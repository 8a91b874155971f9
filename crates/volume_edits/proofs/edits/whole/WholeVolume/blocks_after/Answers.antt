use Rattle.std.proofs.Common.{◌≡◌, subst, List}
use Rattle.std.specs.Prelude.{IfOk}
use Rattle.fork_bytes.specs.declared.block.Block.{Block}
use Rattle.volume_edits.proofs.OfEdits.BlocksBehind.{blocks-written}
use Rattle.volume_edits.proofs.edits.whole.WholeVolume.blocks_after.Goals as goal

pub returns-in-Some : goal.returns-in-Some
returns-in-Some c =
    subst (λ (blocks : List Block). IfOk c.blocks_written.result (λ list. list.items ≡ blocks))
    (blocks-written c.edits_go_by_node.ensures c.args.self.now.state c.args.plan.now.moment c.args.plan.now.edits c.in-Some.write.now.moment c.in-Some.write.now.id.0 c.in-Some.write.now.resource c.in-Some.write.now.write.before
    c.in-Some.write.now.write.after c.args.id.0 c.args.resource c.keeps_sound.ensures.sound c.in-Some.ensures c.requires.may c.requires.before)
    c.blocks_written.ensures
