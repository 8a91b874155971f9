use Rattle.std.proofs.Common.{◌≡◌, ◌≤◌, ◌∙◌, ap, sym, subst, Some, arith, rules, w32, to_z, of_z}
use Rattle.std.proofs.lemmas.Int.{to_z-of_z}
use Rattle.volume_spec.specs.Edit.{Exchanges, edited}
use Rattle.volume_spec.specs.EditLaws.{MayExchange}
use Rattle.volume_spec.specs.Edits.{exchanged_at, with_changed}
use Rattle.volume_spec.specs.SoundVolume.{IsSoundVolume}
use Rattle.volume_spec.specs.VolumeState.{Row}
use Rattle.volume_spec.specs.Walk.{row_at}
use Rattle.volume_tree.proofs.KeptEdits.{gone-drawn}
use Rattle.volume_tree.proofs.Edited.{row-node}
use Rattle.volume_tree.proofs.ForksEdited.{Swapped, found-under, swapped-kept, swapped-spare, swapped-state}
use Rattle.volume_tree.proofs.Showing.{found-shown}
use Rattle.volume_tree.specs.Kept.{spare_of, state_of, with_forks}
use Rattle.volume_tree.specs.Shown.{TreeValue}
use Rattle.volume_tree.specs.lemma.Edited.{modified_on}
use Rattle.volume_tree.proofs.volume.Volume.exchange_forks.Goals as goal

pub invariant_of-self : goal.invariant_of-self
unfolding edited
invariant_of-self c =
    let state = state_of c.self.inside.name c.self.inside.dates c.self.inside.rows c.self.inside.forks in
    let may : MayExchange state c.args.a.0 c.args.b.0 = subst (λ (v : TreeValue). MayExchange v.state c.args.a.0 c.args.b.0) (sym c.self.view_is) c.requires in
    let one = found-under c.self.inside.forks c.self.inside.rows.rows c.args.a.0 may.first may.first_found in
    let other = found-under c.self.inside.forks c.self.inside.rows.rows c.args.b.0 may.second may.second_found in
    let s : Row = one.0 in
    let t : Row = other.0 in
    let at_a : row_at state.rows c.args.a.0 ≡ Some (with_forks c.self.inside.forks s) = found-shown c.self.inside.forks c.self.inside.rows.rows c.args.a.0 s one.1 in
    let at_b : row_at state.rows c.args.b.0 ≡ Some (with_forks c.self.inside.forks t) = found-shown c.self.inside.forks c.self.inside.rows.rows c.args.b.0 t other.1 in
    let date_a : to_z w32 (of_z w32 c.modified_of-of_a.result) ≡ s.modified = to_z-of_z w32 c.modified_of-of_a.result (search rules) ∙ c.modified_of-of_a.ensures s one.1 in
    let date_b : to_z w32 (of_z w32 c.modified_of-of_b.result) ≡ t.modified = to_z-of_z w32 c.modified_of-of_b.result (search rules) ∙ c.modified_of-of_b.ensures t other.1 in
    let w : Swapped c.self.inside.name c.self.inside.dates c.self.inside.rows c.set_modified-2.new.rows c.self.inside.forks c.swap.new.forks c.self.inside.used c.args.a.0 c.args.b.0 s t = record {
      kept = c.self.invariant;
      sound = subst IsSoundVolume (λ i. exchanged_at c.args.a.0 c.args.b.0 (at_a i) (at_b i) state) (c.edits_keep_volumes_sound.ensures.edit state (Exchanges c.args.a.0 c.args.b.0) may c.self.invariant.sound);
      apart = may.apart;
      at_a = one.1;
      at_b = other.1;
      file_a = ap (λ (r : Row). r.dir) one.2 ∙ may.first_file;
      file_b = ap (λ (r : Row). r.dir) other.2 ∙ may.second_file;
      next_a = gone-drawn state (Some c.args.a) (row-node state.rows c.args.a.0 may.first may.first_found) c.self.invariant.sound;
      next_b = gone-drawn state (Some c.args.b) (row-node state.rows c.args.b.0 may.second may.second_found) c.self.invariant.sound;
      next_is = c.set_modified-2.ensures.next ∙ c.set_modified.ensures.next;
      rows_are = c.set_modified-2.ensures.rows ∙ ap (with_changed c.args.b.0 (modified_on (to_z w32 (of_z w32 c.modified_of-of_a.result)))) c.set_modified.ensures.rows
          ∙ (λ i. with_changed c.args.b.0 (modified_on (date_a i)) (with_changed c.args.a.0 (modified_on (date_b i)) c.self.inside.rows.rows));
      forks_are = c.swap.ensures;
    } in
    swapped-kept w

pub returns-clause-state : goal.returns-clause-state
unfolding edited
returns-clause-state c =
    let state = state_of c.self.inside.name c.self.inside.dates c.self.inside.rows c.self.inside.forks in
    let may : MayExchange state c.args.a.0 c.args.b.0 = subst (λ (v : TreeValue). MayExchange v.state c.args.a.0 c.args.b.0) (sym c.self.view_is) c.requires in
    let one = found-under c.self.inside.forks c.self.inside.rows.rows c.args.a.0 may.first may.first_found in
    let other = found-under c.self.inside.forks c.self.inside.rows.rows c.args.b.0 may.second may.second_found in
    let s : Row = one.0 in
    let t : Row = other.0 in
    let at_a : row_at state.rows c.args.a.0 ≡ Some (with_forks c.self.inside.forks s) = found-shown c.self.inside.forks c.self.inside.rows.rows c.args.a.0 s one.1 in
    let at_b : row_at state.rows c.args.b.0 ≡ Some (with_forks c.self.inside.forks t) = found-shown c.self.inside.forks c.self.inside.rows.rows c.args.b.0 t other.1 in
    let date_a : to_z w32 (of_z w32 c.modified_of-of_a.result) ≡ s.modified = to_z-of_z w32 c.modified_of-of_a.result (search rules) ∙ c.modified_of-of_a.ensures s one.1 in
    let date_b : to_z w32 (of_z w32 c.modified_of-of_b.result) ≡ t.modified = to_z-of_z w32 c.modified_of-of_b.result (search rules) ∙ c.modified_of-of_b.ensures t other.1 in
    let w : Swapped c.self.inside.name c.self.inside.dates c.self.inside.rows c.set_modified-2.new.rows c.self.inside.forks c.swap.new.forks c.self.inside.used c.args.a.0 c.args.b.0 s t = record {
      kept = c.self.invariant;
      sound = subst IsSoundVolume (λ i. exchanged_at c.args.a.0 c.args.b.0 (at_a i) (at_b i) state) (c.edits_keep_volumes_sound.ensures.edit state (Exchanges c.args.a.0 c.args.b.0) may c.self.invariant.sound);
      apart = may.apart;
      at_a = one.1;
      at_b = other.1;
      file_a = ap (λ (r : Row). r.dir) one.2 ∙ may.first_file;
      file_b = ap (λ (r : Row). r.dir) other.2 ∙ may.second_file;
      next_a = gone-drawn state (Some c.args.a) (row-node state.rows c.args.a.0 may.first may.first_found) c.self.invariant.sound;
      next_b = gone-drawn state (Some c.args.b) (row-node state.rows c.args.b.0 may.second may.second_found) c.self.invariant.sound;
      next_is = c.set_modified-2.ensures.next ∙ c.set_modified.ensures.next;
      rows_are = c.set_modified-2.ensures.rows ∙ ap (with_changed c.args.b.0 (modified_on (to_z w32 (of_z w32 c.modified_of-of_a.result)))) c.set_modified.ensures.rows
          ∙ (λ i. with_changed c.args.b.0 (modified_on (date_a i)) (with_changed c.args.a.0 (modified_on (date_b i)) c.self.inside.rows.rows));
      forks_are = c.swap.ensures;
    } in
    swapped-state w ∙ sym (λ i. exchanged_at c.args.a.0 c.args.b.0 (at_a i) (at_b i) state)
    ∙ ap (λ (v : TreeValue). exchanged_at c.args.a.0 c.args.b.0 (row_at v.state.rows c.args.a.0) (row_at v.state.rows c.args.b.0) v.state) c.self.view_is

pub returns-clause-spare : goal.returns-clause-spare
unfolding edited
returns-clause-spare c =
    let state = state_of c.self.inside.name c.self.inside.dates c.self.inside.rows c.self.inside.forks in
    let may : MayExchange state c.args.a.0 c.args.b.0 = subst (λ (v : TreeValue). MayExchange v.state c.args.a.0 c.args.b.0) (sym c.self.view_is) c.requires in
    let one = found-under c.self.inside.forks c.self.inside.rows.rows c.args.a.0 may.first may.first_found in
    let other = found-under c.self.inside.forks c.self.inside.rows.rows c.args.b.0 may.second may.second_found in
    let s : Row = one.0 in
    let t : Row = other.0 in
    let at_a : row_at state.rows c.args.a.0 ≡ Some (with_forks c.self.inside.forks s) = found-shown c.self.inside.forks c.self.inside.rows.rows c.args.a.0 s one.1 in
    let at_b : row_at state.rows c.args.b.0 ≡ Some (with_forks c.self.inside.forks t) = found-shown c.self.inside.forks c.self.inside.rows.rows c.args.b.0 t other.1 in
    let date_a : to_z w32 (of_z w32 c.modified_of-of_a.result) ≡ s.modified = to_z-of_z w32 c.modified_of-of_a.result (search rules) ∙ c.modified_of-of_a.ensures s one.1 in
    let date_b : to_z w32 (of_z w32 c.modified_of-of_b.result) ≡ t.modified = to_z-of_z w32 c.modified_of-of_b.result (search rules) ∙ c.modified_of-of_b.ensures t other.1 in
    let w : Swapped c.self.inside.name c.self.inside.dates c.self.inside.rows c.set_modified-2.new.rows c.self.inside.forks c.swap.new.forks c.self.inside.used c.args.a.0 c.args.b.0 s t = record {
      kept = c.self.invariant;
      sound = subst IsSoundVolume (λ i. exchanged_at c.args.a.0 c.args.b.0 (at_a i) (at_b i) state) (c.edits_keep_volumes_sound.ensures.edit state (Exchanges c.args.a.0 c.args.b.0) may c.self.invariant.sound);
      apart = may.apart;
      at_a = one.1;
      at_b = other.1;
      file_a = ap (λ (r : Row). r.dir) one.2 ∙ may.first_file;
      file_b = ap (λ (r : Row). r.dir) other.2 ∙ may.second_file;
      next_a = gone-drawn state (Some c.args.a) (row-node state.rows c.args.a.0 may.first may.first_found) c.self.invariant.sound;
      next_b = gone-drawn state (Some c.args.b) (row-node state.rows c.args.b.0 may.second may.second_found) c.self.invariant.sound;
      next_is = c.set_modified-2.ensures.next ∙ c.set_modified.ensures.next;
      rows_are = c.set_modified-2.ensures.rows ∙ ap (with_changed c.args.b.0 (modified_on (to_z w32 (of_z w32 c.modified_of-of_a.result)))) c.set_modified.ensures.rows
          ∙ (λ i. with_changed c.args.b.0 (modified_on (date_a i)) (with_changed c.args.a.0 (modified_on (date_b i)) c.self.inside.rows.rows));
      forks_are = c.swap.ensures;
    } in
    subst (λ (v : TreeValue). v.spare ≤ spare_of c.set_modified-2.new.rows c.swap.new.forks) c.self.view_is (swapped-spare w (omega (arith, c.set_modified.ensures.spare, c.set_modified-2.ensures.spare)))
