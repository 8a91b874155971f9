use Rattle.std.proofs.Common.{◌≤◌, ◌∙◌, ap, sym, subst, arith}
use Rattle.std.specs.Prelude.{min}
use Rattle.std.proofs.Math.Nat.{le-min, min-le_left, min-le_right}
use Rattle.volume_spec.specs.DesktopLaws.{with_desktop}
use Rattle.volume_spec.specs.Edit.{edited}
use Rattle.volume_spec.specs.EditLaws.{MayEdit}
use Rattle.volume_spec.specs.VolumeState.{VolumeState}
use Rattle.volume_edits.specs.edits.Planned.{StandsOn, takes}
use Rattle.volume_edits.specs.edits.Whole.{VolumeValue}
use Rattle.volume_edits.specs.edits.lemma.Whole.{IsWhole}
use Rattle.volume_edits.proofs.OfEdits.Seen.{stands-seen}
use Rattle.volume_edits.proofs.edits.whole.WholeVolume.edit.Goals as goal

pub carry_out-requires-clause-may : goal.carry_out-requires-clause-may
carry_out-requires-clause-may c = subst (λ (v : VolumeValue). MayEdit v.state c.args.edit.edit) (sym c.self.view_is) c.requires.may

pub carry_out-requires-clause-before : goal.carry_out-requires-clause-before
carry_out-requires-clause-before c =
    stands-seen c.self.inside.tree.state c.self.inside.desktop.comments c.self.inside.desktop.icons c.self.inside.desktop.appls c.args.edit.edit c.args.edit.before
    (subst (λ (v : VolumeValue). StandsOn v.state c.args.edit.edit c.args.edit.before) (sym c.self.view_is) c.requires.before)

pub invariant_of-self : goal.invariant_of-self
invariant_of-self c =
    let v : VolumeState = (with_desktop c.self.inside.tree.state c.self.inside.desktop.comments c.self.inside.desktop.icons c.self.inside.desktop.appls) in
    let may : MayEdit v c.args.edit.edit = subst (λ (w : VolumeValue). MayEdit w.state c.args.edit.edit) (sym c.self.view_is) c.requires.may in
    subst (λ (w : VolumeState). IsWhole w) (sym c.carry_out.ensures.state) (record {
      sound = c.edits_keep_volumes_sound.ensures.edit v c.args.edit.edit may c.self.invariant.sound;
      typed = c.edits_keep_numbers_in_ranges.ensures.edit v c.args.edit.edit may c.requires.typed c.self.invariant.typed;
    })

pub returns-clause-state : goal.returns-clause-state
returns-clause-state c = c.carry_out.ensures.state ∙ ap (λ (v : VolumeValue). edited v.state c.args.edit.edit) c.self.view_is

pub carry_out-requires-clause-tree_room : goal.carry_out-requires-clause-tree_room
carry_out-requires-clause-tree_room c =
    let room : takes c.args.edit.edit ≤ min c.self.inside.tree.spare c.self.inside.desktop.spare = subst (λ (v : VolumeValue). takes c.args.edit.edit ≤ v.spare) (sym c.self.view_is) c.requires.room in
    omega (arith, room, min-le_left c.self.inside.tree.spare c.self.inside.desktop.spare)

pub carry_out-requires-clause-desktop_room : goal.carry_out-requires-clause-desktop_room
carry_out-requires-clause-desktop_room c =
    let room : takes c.args.edit.edit ≤ min c.self.inside.tree.spare c.self.inside.desktop.spare = subst (λ (v : VolumeValue). takes c.args.edit.edit ≤ v.spare) (sym c.self.view_is) c.requires.room in
    omega (arith, room, min-le_right c.self.inside.tree.spare c.self.inside.desktop.spare)

pub returns-clause-spare : goal.returns-clause-spare
returns-clause-spare c = λ none.
    let tree : c.self.inside.tree.spare ≤ c.carry_out.new.tree.spare = c.carry_out.ensures.tree_spare none in
    let desktop : c.self.inside.desktop.spare ≤ c.carry_out.new.desktop.spare = c.carry_out.ensures.desktop_spare none in
    subst (λ (v : VolumeValue). v.spare ≤ min c.carry_out.new.tree.spare c.carry_out.new.desktop.spare) c.self.view_is
    (le-min (omega (arith, tree, min-le_left c.self.inside.tree.spare c.self.inside.desktop.spare)) (omega (arith, desktop, min-le_right c.self.inside.tree.spare c.self.inside.desktop.spare)))
