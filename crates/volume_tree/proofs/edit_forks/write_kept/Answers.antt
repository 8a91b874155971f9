use Rattle.volume_tree.proofs.Writing.{put-changed}
use Rattle.volume_tree.proofs.edit_forks.write_kept.Goals as goal

pub returns-clause-changed : goal.returns-clause-changed
returns-clause-changed c =
    put-changed c.args.resource c.args.write.after c.args.forks.now c.replace-kept.new.self c.replace.new.self c.from-key.result c.args.id.0 c.replace-kept.result c.write.new.self c.from-key.ensures c.replace-kept.ensures.old c.replace.ensures.updates
    c.write.ensures
