use Rattle.std.proofs.Common.{◌∙◌, ap}
use Rattle.volume_spec.specs.Edit.{Sets, edited}
use Rattle.volume_spec.specs.Edits.{with_changed}
use Rattle.volume_spec.specs.SetFileDirParms.{with_settings}
use Rattle.volume_spec.specs.VolumeState.{VolumeState}
use Rattle.volume_tree.proofs.Edited.{Changed, changed-kept, changed-state, set-changed}
use Rattle.volume_tree.specs.Kept.{state_of}
use Rattle.volume_tree.specs.Shown.{TreeValue}
use Rattle.volume_tree.proofs.volume.Volume.set_node.Goals as goal

pub invariant_of-self : goal.invariant_of-self
unfolding edited
invariant_of-self c =
    let state = state_of c.self.inside.name c.self.inside.dates c.self.inside.rows c.self.inside.forks in
    let a : Changed c.self.inside.name c.self.inside.dates c.self.inside.rows c.set_node.new.rows c.self.inside.forks c.self.inside.used c.args.id.0 (with_settings c.args.settings.now) =
    set-changed c.args.id.0 c.args.settings.now c.self.invariant (c.edits_keep_volumes_sound.ensures.edit state (Sets c.args.id.0 c.args.settings.now) c.requires c.self.invariant.sound)
    c.set_node.ensures.next c.set_node.ensures.rows in
    changed-kept a

pub returns-clause-state : goal.returns-clause-state
unfolding edited
returns-clause-state c =
    let state = state_of c.self.inside.name c.self.inside.dates c.self.inside.rows c.self.inside.forks in
    let a : Changed c.self.inside.name c.self.inside.dates c.self.inside.rows c.set_node.new.rows c.self.inside.forks c.self.inside.used c.args.id.0 (with_settings c.args.settings.now) =
    set-changed c.args.id.0 c.args.settings.now c.self.invariant (c.edits_keep_volumes_sound.ensures.edit state (Sets c.args.id.0 c.args.settings.now) c.requires c.self.invariant.sound)
    c.set_node.ensures.next c.set_node.ensures.rows in
    changed-state a ∙ ap (λ (v : TreeValue). let w : VolumeState = record v.state { rows = with_changed c.args.id.0 (with_settings c.args.settings.now) v.state.rows } in w) c.self.view_is
