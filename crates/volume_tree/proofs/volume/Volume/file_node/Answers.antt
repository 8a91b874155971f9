use Rattle.std.proofs.Common.{◌≡◌, ◌∙◌, ap, sym, subst, true}
use Rattle.volume_spec.specs.Edit.{Files, edited}
use Rattle.volume_spec.specs.Edits.{filed_as, with_changed}
use Rattle.volume_spec.specs.SoundVolume.{has_file}
use Rattle.volume_spec.specs.VolumeState.{VolumeState}
use Rattle.volume_tree.proofs.Edited.{Changed, changed-kept, changed-state, filed-changed}
use Rattle.volume_tree.specs.Kept.{state_of}
use Rattle.volume_tree.specs.Shown.{TreeValue}
use Rattle.volume_tree.proofs.volume.Volume.file_node.Goals as goal

pub invariant_of-self : goal.invariant_of-self
unfolding edited
invariant_of-self c =
    let state = state_of c.self.inside.name c.self.inside.dates c.self.inside.rows c.self.inside.forks in
    let a : Changed c.self.inside.name c.self.inside.dates c.self.inside.rows c.file_node.new.rows c.self.inside.forks c.self.inside.used c.args.id.0 (filed_as c.args.filed) =
    filed-changed c.args.id.0 c.args.filed c.self.invariant
    (c.edits_keep_volumes_sound.ensures.edit state (Files c.args.id.0 c.args.filed) (subst (λ (v : TreeValue). has_file v.state.rows c.args.id.0 ≡ true) (sym c.self.view_is) c.requires) c.self.invariant.sound)
    c.file_node.ensures.next c.file_node.ensures.rows in
    changed-kept a

pub returns-clause-state : goal.returns-clause-state
unfolding edited
returns-clause-state c =
    let state = state_of c.self.inside.name c.self.inside.dates c.self.inside.rows c.self.inside.forks in
    let a : Changed c.self.inside.name c.self.inside.dates c.self.inside.rows c.file_node.new.rows c.self.inside.forks c.self.inside.used c.args.id.0 (filed_as c.args.filed) =
    filed-changed c.args.id.0 c.args.filed c.self.invariant
    (c.edits_keep_volumes_sound.ensures.edit state (Files c.args.id.0 c.args.filed) (subst (λ (v : TreeValue). has_file v.state.rows c.args.id.0 ≡ true) (sym c.self.view_is) c.requires) c.self.invariant.sound)
    c.file_node.ensures.next c.file_node.ensures.rows in
    changed-state a ∙ ap (λ (v : TreeValue). let w : VolumeState = record v.state { rows = with_changed c.args.id.0 (filed_as c.args.filed) v.state.rows } in w) c.self.view_is
