use Rattle.std.proofs.Common.{◌≡◌, ◌∙◌, sym, subst, false}
use Rattle.volume_spec.specs.Edit.{Renames, edited}
use Rattle.volume_spec.specs.Edits.{is_taken}
use Rattle.volume_spec.specs.SoundVolume.{IsSoundVolume}
use Rattle.volume_tree.proofs.Edited.{directory-found, renamed-place, row-node}
use Rattle.volume_tree.proofs.volume.Volume.rename_node.Goals as goal

pub place_node-requires-clause-free : goal.place_node-requires-clause-free
place_node-requires-clause-free c =
    subst (λ p. is_taken c.args.self.now.state.rows c.args.id.0 p c.args.name ≡ false) (sym (c.directory-parent.ensures ∙ directory-found c.args.self.now.state.rows c.args.id.0 c.requires.row c.requires.found)) c.requires.free

pub place_node-requires-clause-sound : goal.place_node-requires-clause-sound
unfolding edited
place_node-requires-clause-sound c =
    subst IsSoundVolume (sym (renamed-place c.args.self.now.state c.args.id.0 c.directory-parent.result.0 c.args.name c.keeps_sound.ensures (row-node c.args.self.now.state.rows c.args.id.0 c.requires.row c.requires.found) c.directory-parent.ensures))
    (c.edits_keep_volumes_sound.ensures.edit c.args.self.now.state (Renames c.args.id.0 c.args.name) c.requires c.keeps_sound.ensures)

pub returns-clause-state : goal.returns-clause-state
returns-clause-state c = c.place_node.ensures.state ∙ renamed-place c.args.self.now.state c.args.id.0 c.directory-parent.result.0 c.args.name c.keeps_sound.ensures (row-node c.args.self.now.state.rows c.args.id.0 c.requires.row c.requires.found) c.directory-parent.ensures
