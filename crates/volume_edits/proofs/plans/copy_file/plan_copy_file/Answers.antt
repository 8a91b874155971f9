use Rattle.std.proofs.Common.{◌∙◌, [], ◌∷◌, ap}
use Rattle.std.proofs.lemmas.Bool.{and_from}
use Rattle.volume_spec.specs.CopyFile.{Source, copy_at}
use Rattle.volume_spec.specs.Edit as edit
use Rattle.volume_spec.specs.SoundVolume.{is_formed}
use Rattle.volume_spec.specs.VolumeCalls as call
use Rattle.volume_spec.specs.VolumeState.{Row}
use Rattle.volume_spec.specs.Walk.{is_named_path}
use Rattle.volume_edits.specs.edits.Planned.{plain}
use Rattle.volume_edits.proofs.OfPlans.Calls.{plans-plain}
use Rattle.volume_edits.proofs.OfPlans.Copies.{copy-edits}
use Rattle.volume_edits.proofs.plans.copy_file.plan_copy_file.Goals as goal

pub returns-clause-plan : goal.returns-clause-plan
returns-clause-plan c =
    let source : Source = record { file = c.args.source.now; held = c.args.held; denied = c.args.denied } in
    let comes = c.comes.ensures ∙ ap (λ (row : Row). plain (edit.Comes row)) c.in-Ok-copy_of.ensures in
    plans-plain c.args.target.now.state c.args.user [] c.args.now (call.CopyFile source c.args.dir.0 c.args.path.now c.args.new.now) (c.comes.result ∷ c.dated.result ∷ [])
    (edit.Comes (copy_at c.in-Ok.at.0.0 c.in-Ok.at.1.now c.args.source.now) ∷ edit.dated c.args.now c.in-Ok.at.0.0 ∷ []) c.plan_two.result
    c.laws_hold.ensures (and_from (is_formed c.args.source.now) (is_named_path c.args.new.now) c.keeps_formed.ensures.formed c.steps_are_named.ensures) c.keeps_formed.ensures.typed c.in-Ok.ensures.refused
    (λ i. comes i ∷ c.dated.ensures i ∷ []) (tt, (tt, tt))
    (copy-edits c.args.target.now.state c.args.user c.args.now c.args.dir.0 c.args.path.now c.in-Ok.at.0.0 source c.args.new.now c.in-Ok.at.1.now c.in-Ok.ensures.found c.in-Ok.ensures.name) c.plan_two.ensures
