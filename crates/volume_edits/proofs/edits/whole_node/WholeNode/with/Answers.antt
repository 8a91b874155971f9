use Rattle.std.proofs.Common.{◌∙◌, ap}
use Rattle.volume_spec.specs.SetFileDirParms.{with_settings}
use Rattle.volume_spec.specs.VolumeState.{Row}
use Rattle.volume_edits.proofs.edits.whole_node.WholeNode.with.Goals as goal

pub returns : goal.returns
unfolding with_settings
returns c = ap (λ (n : Row). record n { data_fork = c.self.inside.data_fork; resource_fork = c.self.inside.resource_fork }) c.with.ensures ∙ ap (with_settings c.args.settings.now) c.self.view_is
