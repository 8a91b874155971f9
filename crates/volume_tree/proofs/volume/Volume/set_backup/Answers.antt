use Rattle.std.proofs.Common.{◌≡◌, ◌∙◌, ap, rules, w32, to_z, of_z}
use Rattle.std.proofs.lemmas.Int.{to_z-of_z}
use Rattle.volume_spec.specs.Edit.{BacksUp, edited}
use Rattle.volume_tree.proofs.Edited.{backed-kept}
use Rattle.volume_tree.specs.Kept.{state_of}
use Rattle.volume_tree.specs.declared.head.Dates.{Dates}
use Rattle.volume_tree.proofs.volume.Volume.set_backup.Goals as goal

pub invariant_of-self : goal.invariant_of-self
unfolding edited
invariant_of-self c =
    let state = state_of c.self.inside.name c.self.inside.dates c.self.inside.rows c.self.inside.forks in
    let same : to_z w32 (of_z w32 c.args.date) ≡ c.args.date = to_z-of_z w32 c.args.date (search rules) in
    backed-kept c.args.date (c.backed_up-self-inside.ensures ∙ ap (λ date. let dates : Dates = record c.self.inside.dates { backup = date } in dates) same) (c.edits_keep_volumes_sound.ensures.edit state (BacksUp c.args.date) tt c.self.invariant.sound) c.self.invariant
