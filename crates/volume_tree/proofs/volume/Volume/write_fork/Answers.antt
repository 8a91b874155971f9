use Rattle.std.proofs.Common.{◌≡◌, ◌≤◌, ◌∙◌, ◌+◌, ◌-◌, ap, sym, refl, subst, length, Some, true, arith, rules, w32}
use Rattle.std.proofs.lemmas.Int.{to_z-of_z}
use Rattle.std.specs.Prelude.{pos}
use Rattle.afp_base.specs.Limits.{most_fork_bytes}
use Rattle.volume_spec.specs.Edit.{Writes, edited}
use Rattle.volume_spec.specs.EditLaws.{MayWrite}
use Rattle.volume_spec.specs.Edits.{with_changed}
use Rattle.volume_spec.specs.ForkEffect.{written}
use Rattle.volume_spec.specs.SoundVolume.{fork_bytes}
use Rattle.volume_spec.specs.VolumeState.{VolumeState}
use Rattle.volume_tree.proofs.ForksEdited.{write-fits, wrote-kept, wrote-spare, wrote-state}
use Rattle.volume_tree.proofs.Writing.{Written, before-within, file-there}
use Rattle.volume_tree.specs.Kept.{rows_of, spare_of, state_of}
use Rattle.volume_tree.specs.Shown.{TreeValue, fork_at}
use Rattle.volume_tree.specs.lemma.Edited.{modified_on}
use Rattle.volume_tree.proofs.volume.Volume.write_fork.Goals as goal

pub overflow_sub-self : goal.overflow_sub-self
overflow_sub-self c =
    let state = state_of c.self.inside.name c.self.inside.dates c.self.inside.rows c.self.inside.forks in
    let may : MayWrite state c.args.id.0 c.args.resource c.args.write.after = subst (λ (v : TreeValue). MayWrite v.state c.args.id.0 c.args.resource c.args.write.after) (sym c.self.view_is) c.requires.may in
    let given : fork_at state.rows c.args.id.0 c.args.resource ≡ Some c.args.write.before = subst (λ (v : TreeValue). fork_at v.state.rows c.args.id.0 c.args.resource ≡ Some c.args.write.before) (sym c.self.view_is) c.requires.before in
    let file = file-there c.self.inside.forks c.self.inside.rows.rows c.args.id.0 c.args.resource c.args.write.before c.self.invariant.files given in
    let old : c.write_kept-before.result ≡ length c.args.write.before = c.write_kept-before.ensures.len in
    let within : length c.args.write.before ≤ c.self.inside.used = before-within c.args.id.0 0 c.args.resource c.args.write.before c.self.invariant file in
    omega (arith, old, within)

pub overflow_add-self : goal.overflow_add-self
overflow_add-self c =
    let state = state_of c.self.inside.name c.self.inside.dates c.self.inside.rows c.self.inside.forks in
    let may : MayWrite state c.args.id.0 c.args.resource c.args.write.after = subst (λ (v : TreeValue). MayWrite v.state c.args.id.0 c.args.resource c.args.write.after) (sym c.self.view_is) c.requires.may in
    let given : fork_at state.rows c.args.id.0 c.args.resource ≡ Some c.args.write.before = subst (λ (v : TreeValue). fork_at v.state.rows c.args.id.0 c.args.resource ≡ Some c.args.write.before) (sym c.self.view_is) c.requires.before in
    let file = file-there c.self.inside.forks c.self.inside.rows.rows c.args.id.0 c.args.resource c.args.write.before c.self.invariant.files given in
    let old : c.write_kept-before.result ≡ length c.args.write.before = c.write_kept-before.ensures.len in
    let within : length c.args.write.before ≤ c.self.inside.used = before-within c.args.id.0 0 c.args.resource c.args.write.before c.self.invariant file in
    let new : c.len-after.result ≡ length c.args.write.after = c.len-after.ensures ∙ c.plan.ensures.len in
    let fits : fork_bytes (rows_of c.self.inside.forks c.self.inside.rows.rows) + length c.args.write.after ≤ most_fork_bytes + length c.args.write.before = write-fits state c.args.id.0 c.args.resource c.args.write.before c.args.write.after may given in
    let were : c.self.inside.used ≡ fork_bytes (rows_of c.self.inside.forks c.self.inside.rows.rows) = c.self.invariant.bytes in
    omega (arith, old, within, new)

pub write_kept-before-requires-clause-there : goal.write_kept-before-requires-clause-there
write_kept-before-requires-clause-there c =
    let state = state_of c.self.inside.name c.self.inside.dates c.self.inside.rows c.self.inside.forks in
    let may : MayWrite state c.args.id.0 c.args.resource c.args.write.after = subst (λ (v : TreeValue). MayWrite v.state c.args.id.0 c.args.resource c.args.write.after) (sym c.self.view_is) c.requires.may in
    let given : fork_at state.rows c.args.id.0 c.args.resource ≡ Some c.args.write.before = subst (λ (v : TreeValue). fork_at v.state.rows c.args.id.0 c.args.resource ≡ Some c.args.write.before) (sym c.self.view_is) c.requires.before in
    let file = file-there c.self.inside.forks c.self.inside.rows.rows c.args.id.0 c.args.resource c.args.write.before c.self.invariant.files given in
    file.kept

pub write_kept-before-requires-clause-before : goal.write_kept-before-requires-clause-before
write_kept-before-requires-clause-before c =
    let state = state_of c.self.inside.name c.self.inside.dates c.self.inside.rows c.self.inside.forks in
    let may : MayWrite state c.args.id.0 c.args.resource c.args.write.after = subst (λ (v : TreeValue). MayWrite v.state c.args.id.0 c.args.resource c.args.write.after) (sym c.self.view_is) c.requires.may in
    let given : fork_at state.rows c.args.id.0 c.args.resource ≡ Some c.args.write.before = subst (λ (v : TreeValue). fork_at v.state.rows c.args.id.0 c.args.resource ≡ Some c.args.write.before) (sym c.self.view_is) c.requires.before in
    let file = file-there c.self.inside.forks c.self.inside.rows.rows c.args.id.0 c.args.resource c.args.write.before c.self.invariant.files given in
    sym file.bytes_are

pub invariant_of-self : goal.invariant_of-self
unfolding edited
invariant_of-self c =
    let state = state_of c.self.inside.name c.self.inside.dates c.self.inside.rows c.self.inside.forks in
    let may : MayWrite state c.args.id.0 c.args.resource c.args.write.after = subst (λ (v : TreeValue). MayWrite v.state c.args.id.0 c.args.resource c.args.write.after) (sym c.self.view_is) c.requires.may in
    let given : fork_at state.rows c.args.id.0 c.args.resource ≡ Some c.args.write.before = subst (λ (v : TreeValue). fork_at v.state.rows c.args.id.0 c.args.resource ≡ Some c.args.write.before) (sym c.self.view_is) c.requires.before in
    let file = file-there c.self.inside.forks c.self.inside.rows.rows c.args.id.0 c.args.resource c.args.write.before c.self.invariant.files given in
    let old : c.write_kept-before.result ≡ length c.args.write.before = c.write_kept-before.ensures.len in
    let within : length c.args.write.before ≤ c.self.inside.used = before-within c.args.id.0 0 c.args.resource c.args.write.before c.self.invariant file in
    let new : c.len-after.result ≡ length c.args.write.after = c.len-after.ensures ∙ c.plan.ensures.len in
    let fits : fork_bytes (rows_of c.self.inside.forks c.self.inside.rows.rows) + length c.args.write.after ≤ most_fork_bytes + length c.args.write.before = write-fits state c.args.id.0 c.args.resource c.args.write.before c.args.write.after may given in
    let a : Written c.self.inside.name c.self.inside.dates (record c.self.inside.dates { modified = pos c.args.now }) c.self.inside.rows c.set_modified.new.rows c.self.inside.forks c.write_kept-before.new.forks c.self.inside.used (c.self.inside.used - c.write_kept-before.result + c.len-after.result) c.args.id c.args.now c.args.resource true c.args.write.before c.args.write.after = record {
      kept = c.self.invariant;
      file = file;
      fits = fits;
      dates_are = refl;
      next_is = c.set_modified.ensures.next;
      rows_are = c.set_modified.ensures.rows ∙ ap (λ date. with_changed c.args.id.0 (modified_on date) c.self.inside.rows.rows) (to_z-of_z w32 c.date_of.result (search rules) ∙ c.date_of.ensures);
      others = c.write_kept-before.ensures.others;
      changed = c.write_kept-before.ensures.changed;
      left_is = omega (arith, old, within, new);
    } in
    wrote-kept a (c.edits_keep_volumes_sound.ensures.edit state (Writes c.args.now c.args.id.0 c.args.resource c.args.write.after) may c.self.invariant.sound)

pub returns-clause-state : goal.returns-clause-state
returns-clause-state c =
    let state = state_of c.self.inside.name c.self.inside.dates c.self.inside.rows c.self.inside.forks in
    let may : MayWrite state c.args.id.0 c.args.resource c.args.write.after = subst (λ (v : TreeValue). MayWrite v.state c.args.id.0 c.args.resource c.args.write.after) (sym c.self.view_is) c.requires.may in
    let given : fork_at state.rows c.args.id.0 c.args.resource ≡ Some c.args.write.before = subst (λ (v : TreeValue). fork_at v.state.rows c.args.id.0 c.args.resource ≡ Some c.args.write.before) (sym c.self.view_is) c.requires.before in
    let file = file-there c.self.inside.forks c.self.inside.rows.rows c.args.id.0 c.args.resource c.args.write.before c.self.invariant.files given in
    let old : c.write_kept-before.result ≡ length c.args.write.before = c.write_kept-before.ensures.len in
    let within : length c.args.write.before ≤ c.self.inside.used = before-within c.args.id.0 0 c.args.resource c.args.write.before c.self.invariant file in
    let new : c.len-after.result ≡ length c.args.write.after = c.len-after.ensures ∙ c.plan.ensures.len in
    let fits : fork_bytes (rows_of c.self.inside.forks c.self.inside.rows.rows) + length c.args.write.after ≤ most_fork_bytes + length c.args.write.before = write-fits state c.args.id.0 c.args.resource c.args.write.before c.args.write.after may given in
    let a : Written c.self.inside.name c.self.inside.dates (record c.self.inside.dates { modified = pos c.args.now }) c.self.inside.rows c.set_modified.new.rows c.self.inside.forks c.write_kept-before.new.forks c.self.inside.used (c.self.inside.used - c.write_kept-before.result + c.len-after.result) c.args.id c.args.now c.args.resource true c.args.write.before c.args.write.after = record {
      kept = c.self.invariant;
      file = file;
      fits = fits;
      dates_are = refl;
      next_is = c.set_modified.ensures.next;
      rows_are = c.set_modified.ensures.rows ∙ ap (λ date. with_changed c.args.id.0 (modified_on date) c.self.inside.rows.rows) (to_z-of_z w32 c.date_of.result (search rules) ∙ c.date_of.ensures);
      others = c.write_kept-before.ensures.others;
      changed = c.write_kept-before.ensures.changed;
      left_is = omega (arith, old, within, new);
    } in
    wrote-state a ∙ ap (λ (v : TreeValue). let w : VolumeState = record v.state { rows = with_changed c.args.id.0 (written c.args.now c.args.resource c.args.write.after true) v.state.rows } in w) c.self.view_is

pub returns-clause-spare : goal.returns-clause-spare
returns-clause-spare c =
    let state = state_of c.self.inside.name c.self.inside.dates c.self.inside.rows c.self.inside.forks in
    let may : MayWrite state c.args.id.0 c.args.resource c.args.write.after = subst (λ (v : TreeValue). MayWrite v.state c.args.id.0 c.args.resource c.args.write.after) (sym c.self.view_is) c.requires.may in
    let given : fork_at state.rows c.args.id.0 c.args.resource ≡ Some c.args.write.before = subst (λ (v : TreeValue). fork_at v.state.rows c.args.id.0 c.args.resource ≡ Some c.args.write.before) (sym c.self.view_is) c.requires.before in
    let file = file-there c.self.inside.forks c.self.inside.rows.rows c.args.id.0 c.args.resource c.args.write.before c.self.invariant.files given in
    let old : c.write_kept-before.result ≡ length c.args.write.before = c.write_kept-before.ensures.len in
    let within : length c.args.write.before ≤ c.self.inside.used = before-within c.args.id.0 0 c.args.resource c.args.write.before c.self.invariant file in
    let new : c.len-after.result ≡ length c.args.write.after = c.len-after.ensures ∙ c.plan.ensures.len in
    let fits : fork_bytes (rows_of c.self.inside.forks c.self.inside.rows.rows) + length c.args.write.after ≤ most_fork_bytes + length c.args.write.before = write-fits state c.args.id.0 c.args.resource c.args.write.before c.args.write.after may given in
    let a : Written c.self.inside.name c.self.inside.dates (record c.self.inside.dates { modified = pos c.args.now }) c.self.inside.rows c.set_modified.new.rows c.self.inside.forks c.write_kept-before.new.forks c.self.inside.used (c.self.inside.used - c.write_kept-before.result + c.len-after.result) c.args.id c.args.now c.args.resource true c.args.write.before c.args.write.after = record {
      kept = c.self.invariant;
      file = file;
      fits = fits;
      dates_are = refl;
      next_is = c.set_modified.ensures.next;
      rows_are = c.set_modified.ensures.rows ∙ ap (λ date. with_changed c.args.id.0 (modified_on date) c.self.inside.rows.rows) (to_z-of_z w32 c.date_of.result (search rules) ∙ c.date_of.ensures);
      others = c.write_kept-before.ensures.others;
      changed = c.write_kept-before.ensures.changed;
      left_is = omega (arith, old, within, new);
    } in
    subst (λ (v : TreeValue). v.spare ≤ spare_of c.set_modified.new.rows c.write_kept-before.new.forks) c.self.view_is (wrote-spare a c.set_modified.ensures.spare)
