use Rattle.std.proofs.Common.{◌∙◌, ap, is_some}
use Rattle.std.specs.List.{list_any}
use Rattle.deny_modes.proofs.VolumeOpenLemmas.{fork_told, is_fork, opened_told, told_copied}
use Rattle.deny_modes.proofs.volume_opens.VolumeOpens.has_fork.Goals as goal

pub returns : goal.returns
returns c =
    opened_told c.is_some.result c.self.inside.opens.now (record { volume = c.self.inside.volume.0; node = c.args.node.0; resource = c.args.resource })
    (c.is_some.ensures ∙ told_copied c.counters.result ∙ ap is_some c.counters.ensures)
    ∙ fork_told c.self.inside.volume.0 c.args.node.0 c.args.resource c.self.inside.opens.now
    ∙ ap (list_any (is_fork c.args.node.0 c.args.resource)) c.self.view_is
