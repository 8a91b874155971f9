use Rattle.std.proofs.Common.{◌∙◌, ap, [], List, ℕ, Option}
use Rattle.std.specs.Prelude.{unwrap_or}
use Rattle.volume_spec.specs.Walk.{row_at}
use Rattle.volume_edits.specs.edits.After.{bytes_of}
use Rattle.volume_edits.specs.edits.Whole.{VolumeValue}
use Rattle.volume_edits.proofs.OfEdits.BlocksBehind.{kept-bytes}
use Rattle.volume_edits.proofs.edits.whole.WholeVolume.fork_before.Goals as goal

pub returns : goal.returns
returns c =
    ap (λ (o : Option (List ℕ)). unwrap_or o []) c.fork.ensures
    ∙ kept-bytes c.self.inside.tree.state c.args.id.0 c.args.resource c.keeps_sound.ensures
    ∙ ap (λ (v : VolumeValue). bytes_of c.args.resource (row_at v.state.rows c.args.id.0)) c.self.view_is
