use Rattle.std.proofs.Common.{◌∙◌, sym, ◌∷◌, []}
use Rattle.volume_spec.specs.Desktop.{comment_key}
use Rattle.desktop_db.proofs.Numbers.{comments-at}
use Rattle.desktop_db.proofs.Places.{not-found, place-read}
use Rattle.desktop_db.proofs.comments.find_comment.Goals as goal

pub returns-in-Ok : goal.returns-in-Ok
returns-in-Ok c =
    sym (place-read comment_key (c.args.node.0 ∷ []) c.args.comments.now c.in-Ok.place c.index-comments-place.result c.requires c.in-Ok.ensures.found c.index-comments-place.is) ∙ comments-at c.args.comments.now c.args.node.0

pub returns-in-Err : goal.returns-in-Err
returns-in-Err c = sym (not-found comment_key (c.args.node.0 ∷ []) c.args.comments.now c.in-Err.field-0 c.in-Err.ensures.gap) ∙ comments-at c.args.comments.now c.args.node.0
