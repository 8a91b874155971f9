use Rattle.std.proofs.Common.{◌∙◌, subst, sym}
use Rattle.volume_spec.specs.SoundVolume.{IsSoundVolume}
use Rattle.volume_spec.specs.VolumeState.{VolumeState}
use Rattle.afp_core_calls.proofs.OfFile.FileLemmas.{resolved-told}
use Rattle.afp_core_calls.proofs.file.file_ids.put_resolved.Goals as goal

pub returns-in-Ok-clause-ok : goal.returns-in-Ok-clause-ok
returns-in-Ok-clause-ok g c =
    resolved-told c.args.kept.now.state _ c.args.id.0 c.args.bits c.args.out.now _ (subst (λ (v : VolumeState). IsSoundVolume v) c.whole-volume.ensures c.keeps_sound.ensures.sound) (sym c.has_file.ensures ∙ c.if-not-has_file.false) c.in-Ok.ensures.ok
