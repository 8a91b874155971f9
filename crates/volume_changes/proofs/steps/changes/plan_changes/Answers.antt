use Rattle.std.proofs.Common.{◌≡◌, sym, subst}
use Rattle.std.specs.Prelude.{IfOk}
use Rattle.record_keeper.specs.Records.{changed}
use Rattle.volume_spec.specs.Edit.{after_call}
use Rattle.volume_spec.specs.SoundVolume.{IsSoundVolume}
use Rattle.volume_spec.specs.VolumeState.{VolumeState}
use Rattle.volume_keeper_records.specs.Image.{kept_image}
use Rattle.volume_changes.specs.records.Laws.{IsExact}
use Rattle.volume_changes.specs.records.Touched.{IsWithin}
use Rattle.volume_edits.specs.edits.Planned.{edits_of}
use Rattle.volume_changes.proofs.steps.changes.plan_changes.Goals as goal

pub changes-requires-clause-before : goal.changes-requires-clause-before
changes-requires-clause-before c = subst (λ (v : VolumeState). IsSoundVolume v) (sym c.new-step.ensures.before) c.keeps_sound.ensures.sound

pub changes-requires-clause-after : goal.changes-requires-clause-after
changes-requires-clause-after c =
    subst (λ (v : VolumeState). IsSoundVolume v) (sym c.new-step.ensures.after)
    (c.edits_keep_volumes_sound.ensures.call c.args.whole.now.state c.args.plan.now.moment (edits_of c.args.plan.now.edits) c.requires.may c.keeps_sound.ensures.sound)

pub changes-requires-clause-within : goal.changes-requires-clause-within
changes-requires-clause-within c =
    subst (λ (v : VolumeState). IsWithin c.in-Ok.touched v c.new-step.result.after) (sym c.new-step.ensures.before)
    (subst (λ (w : VolumeState). IsWithin c.in-Ok.touched c.args.whole.now.state w) (sym c.new-step.ensures.after) c.in-Ok.ensures.within)

pub returns-clause-image : goal.returns-clause-image
returns-clause-image c =
    subst (λ (v : VolumeState). IfOk c.changes.result (λ list. changed list.items (kept_image v) ≡ kept_image (after_call c.args.whole.now.state c.args.plan.now.moment (edits_of c.args.plan.now.edits)))) c.new-step.ensures.before
    (subst (λ (w : VolumeState). IfOk c.changes.result (λ list. changed list.items (kept_image c.new-step.result.before) ≡ kept_image w)) c.new-step.ensures.after c.changes.ensures.image)

pub returns-clause-exact : goal.returns-clause-exact
returns-clause-exact c =
    subst (λ (v : VolumeState). IfOk c.changes.result (λ list. IsExact list.items (kept_image v) (kept_image (after_call c.args.whole.now.state c.args.plan.now.moment (edits_of c.args.plan.now.edits))))) c.new-step.ensures.before
    (subst (λ (w : VolumeState). IfOk c.changes.result (λ list. IsExact list.items (kept_image c.new-step.result.before) (kept_image w))) c.new-step.ensures.after c.changes.ensures.exact)
