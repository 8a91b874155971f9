use Rattle.std.proofs.Common.{◌≡◌, ◌∙◌, ℕ, List, sym, subst, false}
use Rattle.volume_spec.specs.Edits.{at_place, is_taken, with_moved}
use Rattle.volume_spec.specs.SoundVolume.{IsSoundVolume}
use Rattle.volume_tree.proofs.Edited.{Changed, changed-kept, changed-state, free-under, placed-changed}
use Rattle.volume_tree.specs.Kept.{rows_of, state_of}
use Rattle.volume_tree.specs.Shown.{TreeValue}
use Rattle.volume_tree.proofs.volume.Volume.place_node.Goals as goal

pub place-requires-clause-free : goal.place-requires-clause-free
place-requires-clause-free c =
    let rows = rows_of c.self.inside.forks c.self.inside.rows.rows in
    free-under c.self.inside.forks c.self.inside.rows.rows c.args.id.0 c.args.parent.0 c.name.inside.name
    (subst (λ (text : List ℕ). is_taken rows c.args.id.0 c.args.parent.0 text ≡ false) (sym c.name.view_is)
    (subst (λ (v : TreeValue). is_taken v.state.rows c.args.id.0 c.args.parent.0 c.args.name ≡ false) (sym c.self.view_is) c.requires.free))

pub invariant_of-self : goal.invariant_of-self
invariant_of-self c =
    let state = state_of c.self.inside.name c.self.inside.dates c.self.inside.rows c.self.inside.forks in
    let sound : IsSoundVolume (with_moved c.args.id.0 c.args.parent.0 c.name.inside.name state) =
    subst (λ (text : List ℕ). IsSoundVolume (with_moved c.args.id.0 c.args.parent.0 text state)) (sym c.name.view_is)
    (subst (λ (v : TreeValue). IsSoundVolume (with_moved c.args.id.0 c.args.parent.0 c.args.name v.state)) (sym c.self.view_is) c.requires.sound) in
    let a : Changed c.self.inside.name c.self.inside.dates c.self.inside.rows c.place.new.self c.self.inside.forks c.self.inside.used c.args.id.0 (at_place c.args.parent.0 c.name.inside.name) =
    placed-changed c.args.id.0 c.args.parent.0 c.name.inside.name c.self.invariant sound c.place.ensures.next c.place.ensures.rows in
    changed-kept a

pub returns-clause-state : goal.returns-clause-state
returns-clause-state c =
    let state = state_of c.self.inside.name c.self.inside.dates c.self.inside.rows c.self.inside.forks in
    let sound : IsSoundVolume (with_moved c.args.id.0 c.args.parent.0 c.name.inside.name state) =
    subst (λ (text : List ℕ). IsSoundVolume (with_moved c.args.id.0 c.args.parent.0 text state)) (sym c.name.view_is)
    (subst (λ (v : TreeValue). IsSoundVolume (with_moved c.args.id.0 c.args.parent.0 c.args.name v.state)) (sym c.self.view_is) c.requires.sound) in
    let a : Changed c.self.inside.name c.self.inside.dates c.self.inside.rows c.place.new.self c.self.inside.forks c.self.inside.used c.args.id.0 (at_place c.args.parent.0 c.name.inside.name) =
    placed-changed c.args.id.0 c.args.parent.0 c.name.inside.name c.self.invariant sound c.place.ensures.next c.place.ensures.rows in
    changed-state a ∙ (λ i. with_moved c.args.id.0 c.args.parent.0 (c.name.view_is i) (c.self.view_is i).state)
