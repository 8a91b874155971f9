use Rattle.std.proofs.Common.{◌∙◌, ap}
use Rattle.volume_spec.specs.DesktopLaws.{with_desktop}
use Rattle.volume_spec.specs.VolumeState.{VolumeState}
use Rattle.volume_edits.proofs.OfEdits.Seen.{exchange-seen, exchange-whole}
use Rattle.volume_edits.proofs.edits.kinds.exchanges.Goals as goal

pub exchange_forks-requires : goal.exchange_forks-requires
exchange_forks-requires c = exchange-seen c.args.tree.now.state c.args.desktop.now.comments c.args.desktop.now.icons c.args.desktop.now.appls c.args.a.0 c.args.b.0 c.requires

pub returns-clause-state : goal.returns-clause-state
returns-clause-state c =
    ap (λ (v : VolumeState). with_desktop v c.args.desktop.now.comments c.args.desktop.now.icons c.args.desktop.now.appls) c.exchange_forks.ensures.state
    ∙ exchange-whole c.args.tree.now.state c.args.desktop.now.comments c.args.desktop.now.icons c.args.desktop.now.appls c.args.a.0 c.args.b.0 c.requires
