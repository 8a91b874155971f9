use Rattle.std.proofs.Common.{◌∙◌, ap, subst, ℕ}
use Rattle.std.specs.Prelude.{option_map}
use Rattle.volume_spec.specs.Desktop.{nth_appl}
use Rattle.afp_core_calls.specs.desktop.lemma.Mappings.{FindsMapping}
use Rattle.volume_spec.specs.VolumeState.{Appl, VolumeState}
use Rattle.afp_core_calls.proofs.OfDesktop.DeskLemmas.{mapping-found}
use Rattle.afp_core_calls.proofs.desktop.appls.mapping.Goals as goal

pub returns : goal.returns
returns g c =
    subst (λ (v : VolumeState). FindsMapping v c.args.creator.now c.args.index c.nth_appl.result) c.whole-volume.ensures
    (mapping-found c.whole-volume.result.now.state c.args.creator.now c.args.index c.nth_appl.result c.keeps_sound.ensures.sound
    (c.nth_appl.ensures ∙ ap (λ (n : ℕ). option_map {U = ℕ × ℕ} (λ (a : Appl). (a.node, a.tag)) (nth_appl c.args.creator.now n c.whole-volume.result.now.state.appls)) c.max.ensures))
