use Rattle.std.proofs.Common.{◌∙◌, ℕ, List, [], ◌∷◌, ap, refl}
use Rattle.volume_spec.specs.Edit as edit
use Rattle.volume_spec.specs.VolumeCalls as call
use Rattle.volume_edits.specs.edits.Planned.{plain}
use Rattle.volume_edits.proofs.OfPlans.Calls.{plans-plain}
use Rattle.volume_edits.proofs.OfPlans.TreeEdits.{move-edits}
use Rattle.volume_edits.proofs.plans.move_and_rename.plan_move_and_rename.Goals as goal

pub returns-clause-plan : goal.returns-clause-plan
returns-clause-plan c =
    let moves = c.moves.ensures ∙ ap (λ (n : List ℕ). plain (edit.Moves c.in-Ok.at.0.0 c.in-Ok.at.1.0 n)) c.in-Ok-of.ensures in
    plans-plain c.args.whole.now.state c.args.user [] c.args.now (call.MoveAndRename c.args.dir.0 c.args.path.now c.args.to_dir.0 c.args.to_path.now c.args.new.now) (c.moves.result ∷ c.dated.result ∷ c.dated-2.result ∷ [])
    (edit.Moves c.in-Ok.at.0.0 c.in-Ok.at.1.0 c.in-Ok.at.2.now ∷ edit.dated c.args.now c.directory-up.result.0 ∷ edit.dated c.args.now c.in-Ok.at.1.0 ∷ []) c.plan_three.result
    c.laws_hold.ensures c.steps_are_named.ensures refl c.in-Ok.ensures.refused (λ i. moves i ∷ c.dated.ensures i ∷ c.dated-2.ensures i ∷ []) (tt, (tt, (tt, tt)))
    (move-edits c.args.whole.now.state c.args.user c.args.now c.args.dir.0 c.args.path.now c.in-Ok.at.0.0 c.in-Ok.ensures.found c.args.to_dir.0 c.args.to_path.now c.in-Ok.at.1.0 c.args.new.now c.in-Ok.at.2.now c.directory-up.result.0 c.in-Ok.ensures.target c.in-Ok.ensures.name c.directory-up.ensures) c.plan_three.ensures
