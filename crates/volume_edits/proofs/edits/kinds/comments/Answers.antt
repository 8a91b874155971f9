use Rattle.volume_spec.specs.DesktopLaws.{with_desktop}
use Rattle.volume_spec.specs.Edit.{edited}
use Rattle.volume_edits.proofs.OfEdits.Seen.{comment-ok}
use Rattle.volume_edits.proofs.edits.kinds.comments.Goals as goal

pub returns : goal.returns
unfolding edited
returns c =
    let comments = comment-ok c.put_comment-put.result (c.put_comment-put.ensures.room c.requires) c.put_comment-put.ensures.ok in
    λ i. with_desktop c.args.tree.now.state (comments i) (c.put_comment-put.ensures.icons i) (c.put_comment-put.ensures.appls i)
