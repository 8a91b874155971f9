use Rattle.std.proofs.Common.{◌∙◌, ap, sym}
use Rattle.std.specs.Prelude.{is_some}
use Rattle.volume_spec.specs.SoundVolume.{has_node}
use Rattle.volume_spec.specs.VolumeState.{VolumeState}
use Rattle.afp_core_calls.proofs.OfFile.FileLemmas.{node-looked}
use Rattle.afp_core_calls.proofs.file.file_ids.has_node.Goals as goal

pub returns-in-Some : goal.returns-in-Some
returns-in-Some g c =
    ap is_some (sym c.in-Some.is) ∙ node-looked c.whole-volume.result.now.state.rows c.args.id.0 c.node_before.result c.node_before.ensures ∙ ap (λ (v : VolumeState). has_node v.rows c.args.id.0) c.whole-volume.ensures

pub returns-in-None : goal.returns-in-None
returns-in-None g c =
    ap is_some (sym c.in-None.is) ∙ node-looked c.whole-volume.result.now.state.rows c.args.id.0 c.node_before.result c.node_before.ensures ∙ ap (λ (v : VolumeState). has_node v.rows c.args.id.0) c.whole-volume.ensures
