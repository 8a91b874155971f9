use Rattle.std.proofs.Common.{rules, ◌≡◌, ◌∙◌, ap, List}
use Rattle.volume_spec.specs.SoundVolume.{fork_bytes}
use Rattle.volume_spec.specs.VolumeState.{Row}
use Rattle.volume_edits.proofs.OfEdits.Room.{saturated}
use Rattle.volume_edits.proofs.edits.whole.WholeVolume.would_pass.Goals as goal

pub returns : goal.returns
returns c =
    let rows : c.self.inside.tree.state.rows ≡ c.args.self.now.state.rows = search rules in
    saturated c.args.self.now.state c.args.old c.args.new c.used.result c.saturating_add.result (c.used.ensures ∙ ap (λ (l : List Row). fork_bytes l) rows) c.saturating_add.ensures c.requires
