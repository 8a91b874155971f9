use Rattle.std.proofs.Common.{◌≡◌, ◌==◌, ◌∙◌, ◌+◌, ◌++◌, ◌∷◌, [], Some, ap, sym, refl, subst, arith, rules, nat_cmp}
use Rattle.std.specs.Prelude.{if◌then◌else◌}
use Rattle.afp_names.specs.Name.{name_key}
use Rattle.sorted_map.specs.map.Entries.{at}
use Rattle.volume_spec.specs.Edit.{Comes, edited}
use Rattle.volume_spec.specs.EditLaws.{MayCome}
use Rattle.volume_spec.specs.Edits.{bare, with_row}
use Rattle.volume_spec.specs.VolumeState.{Row}
use Rattle.volume_spec.specs.Walk.{child_by_key}
use Rattle.volume_tree.proofs.Edited.{Came, came-kept, came-state}
use Rattle.volume_tree.proofs.Showing.{child-shown}
use Rattle.volume_tree.specs.Kept.{state_of}
use Rattle.volume_tree.specs.Shown.{TreeValue}
use Rattle.volume_tree.specs.declared.forks.FileForks.{FileForks}
use Rattle.volume_tree.proofs.volume.Volume.insert_node.Goals as goal

pub insert-requires-clause-free : goal.insert-requires-clause-free
insert-requires-clause-free c =
    let state = state_of c.self.inside.name c.self.inside.dates c.self.inside.rows c.self.inside.forks in
    let full : Row = record c.comer.inside.node { data_fork = c.comer.inside.data_fork; resource_fork = c.comer.inside.resource_fork } in
    let may : MayCome state full = subst (λ (r : Row). MayCome state r) (sym c.comer.view_is) (subst (λ (v : TreeValue). MayCome v.state c.args.comer) (sym c.self.view_is) c.requires.may) in
    (λ i. child_by_key c.self.inside.rows.rows (c.with_id.ensures i).parent (c.comer.invariant i))
    ∙ sym (child-shown c.self.inside.forks c.self.inside.rows.rows full.parent (name_key full.name)) ∙ may.free

pub invariant_of-self : goal.invariant_of-self
unfolding edited
invariant_of-self c =
    let state = state_of c.self.inside.name c.self.inside.dates c.self.inside.rows c.self.inside.forks in
    let full : Row = record c.comer.inside.node { data_fork = c.comer.inside.data_fork; resource_fork = c.comer.inside.resource_fork } in
    let may : MayCome state full = subst (λ (r : Row). MayCome state r) (sym c.comer.view_is) (subst (λ (v : TreeValue). MayCome v.state c.args.comer) (sym c.self.view_is) c.requires.may) in
    let key : c.from.result ≡ c.drawn-id.result.0 = search rules in
    let brought : FileForks = record { data_fork = c.comer.inside.data_fork; resource_fork = c.comer.inside.resource_fork } in
    let a : Came c.self.inside.name c.self.inside.dates c.self.inside.rows c.insert.new.self c.self.inside.forks c.put_back.new.forks c.self.inside.used (c.self.inside.used + c.len.result + c.len-2.result) full brought = record {
      kept = c.self.invariant;
      sound = c.edits_keep_volumes_sound.ensures.edit state (Comes full) may c.self.invariant.sound;
      next_is = c.insert.ensures.next;
      rows_are = c.insert.ensures.rows ∙ ap (λ (r : Row). c.self.inside.rows.rows ++ r ∷ []) c.with_id.ensures ∙ ap (λ n. let r : Row = record (bare full) { id = n } in c.self.inside.rows.rows ++ r ∷ []) c.drawn-id.ensures;
      forks_are = λ q. c.put_back.ensures q ∙ ap (λ n. if q == n then Some brought else at nat_cmp c.self.inside.forks q) (key ∙ c.drawn-id.ensures);
      data_fork = refl;
      resource_fork = refl;
      left_is = omega (arith, c.len.ensures, c.len-2.ensures);
    } in
    came-kept a

pub returns : goal.returns
unfolding edited
returns c =
    let state = state_of c.self.inside.name c.self.inside.dates c.self.inside.rows c.self.inside.forks in
    let full : Row = record c.comer.inside.node { data_fork = c.comer.inside.data_fork; resource_fork = c.comer.inside.resource_fork } in
    let may : MayCome state full = subst (λ (r : Row). MayCome state r) (sym c.comer.view_is) (subst (λ (v : TreeValue). MayCome v.state c.args.comer) (sym c.self.view_is) c.requires.may) in
    let key : c.from.result ≡ c.drawn-id.result.0 = search rules in
    let brought : FileForks = record { data_fork = c.comer.inside.data_fork; resource_fork = c.comer.inside.resource_fork } in
    let a : Came c.self.inside.name c.self.inside.dates c.self.inside.rows c.insert.new.self c.self.inside.forks c.put_back.new.forks c.self.inside.used (c.self.inside.used + c.len.result + c.len-2.result) full brought = record {
      kept = c.self.invariant;
      sound = c.edits_keep_volumes_sound.ensures.edit state (Comes full) may c.self.invariant.sound;
      next_is = c.insert.ensures.next;
      rows_are = c.insert.ensures.rows ∙ ap (λ (r : Row). c.self.inside.rows.rows ++ r ∷ []) c.with_id.ensures ∙ ap (λ n. let r : Row = record (bare full) { id = n } in c.self.inside.rows.rows ++ r ∷ []) c.drawn-id.ensures;
      forks_are = λ q. c.put_back.ensures q ∙ ap (λ n. if q == n then Some brought else at nat_cmp c.self.inside.forks q) (key ∙ c.drawn-id.ensures);
      data_fork = refl;
      resource_fork = refl;
      left_is = omega (arith, c.len.ensures, c.len-2.ensures);
    } in
    came-state a ∙ (λ i. with_row (c.comer.view_is i) (c.self.view_is i).state)
