use Rattle.std.proofs.Common.{◌≡◌, ◌≤◌, ◌∙◌, ◌-◌, ap, sym, subst, true, arith}
use Rattle.volume_spec.specs.Edit.{Goes, edited}
use Rattle.volume_spec.specs.EditLaws.{MayGo}
use Rattle.volume_spec.specs.Edits.{without_node}
use Rattle.volume_spec.specs.SoundVolume.{has_node}
use Rattle.volume_tree.proofs.Edited.{Went, went-kept, went-spare, went-state, went-within}
use Rattle.volume_tree.specs.Kept.{spare_of, state_of}
use Rattle.volume_tree.specs.Shown.{TreeValue}
use Rattle.volume_tree.proofs.volume.Volume.take_node.Goals as goal

pub used_by-requires : goal.used_by-requires
used_by-requires c =
    let state = state_of c.self.inside.name c.self.inside.dates c.self.inside.rows c.self.inside.forks in
    let there : has_node state.rows c.args.id.0 ≡ true = subst (λ (v : TreeValue). has_node v.state.rows c.args.id.0 ≡ true) (sym c.self.view_is) c.requires.there in
    omega (arith, went-within c.args.id c.self.invariant there)

pub overflow_sub-self : goal.overflow_sub-self
overflow_sub-self c =
    let state = state_of c.self.inside.name c.self.inside.dates c.self.inside.rows c.self.inside.forks in
    let there : has_node state.rows c.args.id.0 ≡ true = subst (λ (v : TreeValue). has_node v.state.rows c.args.id.0 ≡ true) (sym c.self.view_is) c.requires.there in
    omega (arith, went-within c.args.id c.self.invariant there, c.used_by.ensures)

pub invariant_of-self : goal.invariant_of-self
unfolding edited
invariant_of-self c =
    let state = state_of c.self.inside.name c.self.inside.dates c.self.inside.rows c.self.inside.forks in
    let there : has_node state.rows c.args.id.0 ≡ true = subst (λ (v : TreeValue). has_node v.state.rows c.args.id.0 ≡ true) (sym c.self.view_is) c.requires.there in
    let may : MayGo state c.args.id.0 = subst (λ (v : TreeValue). MayGo v.state c.args.id.0) (sym c.self.view_is) c.requires.may in
    let a : Went c.self.inside.name c.self.inside.dates c.self.inside.rows c.take_out.new.rows c.self.inside.forks c.take_out.new.forks c.self.inside.used (c.self.inside.used - c.used_by.result) c.args.id = record {
      kept = c.self.invariant;
      sound = c.edits_keep_volumes_sound.ensures.edit state (Goes c.args.id.0) may c.self.invariant.sound;
      there = there;
      next_is = c.take_out.ensures.next;
      rows_are = c.take_out.ensures.rows;
      forks_are = c.take_out.ensures.forks;
      left_is = omega (arith, went-within c.args.id c.self.invariant there, c.used_by.ensures);
    } in
    went-kept a

pub returns-clause-state : goal.returns-clause-state
unfolding edited
returns-clause-state c =
    let state = state_of c.self.inside.name c.self.inside.dates c.self.inside.rows c.self.inside.forks in
    let there : has_node state.rows c.args.id.0 ≡ true = subst (λ (v : TreeValue). has_node v.state.rows c.args.id.0 ≡ true) (sym c.self.view_is) c.requires.there in
    let may : MayGo state c.args.id.0 = subst (λ (v : TreeValue). MayGo v.state c.args.id.0) (sym c.self.view_is) c.requires.may in
    let a : Went c.self.inside.name c.self.inside.dates c.self.inside.rows c.take_out.new.rows c.self.inside.forks c.take_out.new.forks c.self.inside.used (c.self.inside.used - c.used_by.result) c.args.id = record {
      kept = c.self.invariant;
      sound = c.edits_keep_volumes_sound.ensures.edit state (Goes c.args.id.0) may c.self.invariant.sound;
      there = there;
      next_is = c.take_out.ensures.next;
      rows_are = c.take_out.ensures.rows;
      forks_are = c.take_out.ensures.forks;
      left_is = omega (arith, went-within c.args.id c.self.invariant there, c.used_by.ensures);
    } in
    went-state a ∙ ap (λ (v : TreeValue). without_node c.args.id.0 v.state) c.self.view_is

pub returns-clause-spare : goal.returns-clause-spare
unfolding edited
returns-clause-spare c =
    let state = state_of c.self.inside.name c.self.inside.dates c.self.inside.rows c.self.inside.forks in
    let there : has_node state.rows c.args.id.0 ≡ true = subst (λ (v : TreeValue). has_node v.state.rows c.args.id.0 ≡ true) (sym c.self.view_is) c.requires.there in
    let may : MayGo state c.args.id.0 = subst (λ (v : TreeValue). MayGo v.state c.args.id.0) (sym c.self.view_is) c.requires.may in
    let a : Went c.self.inside.name c.self.inside.dates c.self.inside.rows c.take_out.new.rows c.self.inside.forks c.take_out.new.forks c.self.inside.used (c.self.inside.used - c.used_by.result) c.args.id = record {
      kept = c.self.invariant;
      sound = c.edits_keep_volumes_sound.ensures.edit state (Goes c.args.id.0) may c.self.invariant.sound;
      there = there;
      next_is = c.take_out.ensures.next;
      rows_are = c.take_out.ensures.rows;
      forks_are = c.take_out.ensures.forks;
      left_is = omega (arith, went-within c.args.id c.self.invariant there, c.used_by.ensures);
    } in
    subst (λ (v : TreeValue). v.spare ≤ spare_of c.take_out.new.rows c.take_out.new.forks) c.self.view_is (went-spare a c.take_out.ensures.spare)
