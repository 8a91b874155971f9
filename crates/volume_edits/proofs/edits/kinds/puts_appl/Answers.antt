use Rattle.volume_spec.specs.DesktopLaws.{with_desktop}
use Rattle.volume_spec.specs.Edit.{edited}
use Rattle.volume_spec.specs.Desktop.{has_no_appl_room}
use Rattle.volume_edits.proofs.OfEdits.Seen.{put-ok}
use Rattle.volume_edits.proofs.edits.kinds.puts_appl.Goals as goal

pub returns : goal.returns
unfolding edited
returns c =
    let appls = put-ok c.put_appl-put.result (has_no_appl_room c.args.creator c.args.node.0 c.args.desktop.now.appls) c.put_appl-put.ensures.full.0 c.requires.may.room (c.put_appl-put.ensures.room c.requires.room) c.put_appl-put.ensures.ok in
    λ i. with_desktop c.args.tree.now.state (c.put_appl-put.ensures.comments i) (c.put_appl-put.ensures.icons i) (appls i)
