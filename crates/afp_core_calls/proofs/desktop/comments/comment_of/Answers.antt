use Rattle.afp_core_calls.proofs.OfDesktop.DeskLemmas.{comment-short}
use Rattle.afp_core_calls.proofs.desktop.comments.comment_of.Goals as goal

pub returns-clause-short : goal.returns-clause-short
returns-clause-short c =
    let v = c.args.volume.now.state in
    comment-short v.comments v.icons v.appls c.args.id.0 c.comment.result (c.desktops_keep_volumes_sound.ensures.has v c.keeps_sound.ensures.sound) c.comment.ensures
