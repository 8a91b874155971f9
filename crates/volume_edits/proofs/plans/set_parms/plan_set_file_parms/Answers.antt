use Rattle.std.proofs.Common.{◌∙◌, [], ◌∷◌, ap, refl}
use Rattle.volume_spec.specs.Edit as edit
use Rattle.volume_spec.specs.SetFileDirParms.{Settings, settings_in}
use Rattle.volume_spec.specs.VolumeCalls as call
use Rattle.volume_edits.specs.edits.Planned.{plain}
use Rattle.volume_edits.proofs.OfPlans.Calls.{plans-plain}
use Rattle.volume_edits.proofs.OfPlans.TreeEdits.{set-file-edits}
use Rattle.volume_edits.proofs.plans.set_parms.plan_set_file_parms.Goals as goal

pub returns-clause-plan : goal.returns-clause-plan
returns-clause-plan c =
    let sets = c.sets.ensures ∙ ap (λ (s : Settings). plain (edit.Sets c.in-Ok.id.0 s)) c.settings_in.ensures in
    plans-plain c.args.whole.now.state c.args.user [] c.args.now (call.SetFileParms c.args.dir.0 c.args.bits c.args.path.now c.args.tail.now) (c.sets.result ∷ []) (edit.Sets c.in-Ok.id.0 (settings_in c.args.bits c.args.tail.now) ∷ []) c.plan_one.result
    c.laws_hold.ensures refl c.bytes_in_range.ensures c.in-Ok.ensures.refused (λ i. sets i ∷ []) (tt, tt)
    (set-file-edits c.args.whole.now.state c.args.user c.args.now c.args.dir.0 c.args.path.now c.in-Ok.id.0 c.in-Ok.ensures.found c.args.bits c.args.tail.now) c.plan_one.ensures
