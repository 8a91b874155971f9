use Rattle.volume_spec.specs.Edit.{Moves, edited}
use Rattle.volume_tree.proofs.volume.Volume.move_node.Goals as goal

pub place_node-requires-clause-sound : goal.place_node-requires-clause-sound
unfolding edited
place_node-requires-clause-sound c = c.edits_keep_volumes_sound.ensures.edit c.args.self.now.state (Moves c.args.id.0 c.args.parent.0 c.args.name) c.requires c.keeps_sound.ensures
