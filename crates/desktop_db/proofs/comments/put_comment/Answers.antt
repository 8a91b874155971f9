use Rattle.std.proofs.Common.{◌∙◌, ap, sym, refl, ◌∷◌, [], List, slice_set}
use Rattle.volume_spec.specs.Desktop.{comment_key}
use Rattle.volume_spec.specs.Order.{put_in}
use Rattle.volume_spec.specs.VolumeState.{Comment}
use Rattle.desktop_db.specs.lemma.Places.{IsPlaceOf, IsGapFor}
use Rattle.desktop_db.proofs.Numbers.{comments-without}
use Rattle.desktop_db.proofs.Places.{gap-moved, on-ok, place-moved, put-new, replaced}
use Rattle.desktop_db.proofs.comments.put_comment.Goals as goal

pub returns-in-Ok-clause-ok : goal.returns-in-Ok-clause-ok
returns-in-Ok-clause-ok c =
    let items : List Comment = c.args.comments.now.items in
    let place : IsPlaceOf comment_key (c.args.comment.node ∷ []) items c.in-Ok.place = place-moved comment_key (λ i. c.node.ensures i ∷ []) c.as_slice.ensures.value c.in-Ok.ensures.found in
    ap (λ x. slice_set items c.in-Ok.place x) c.replace-old.ensures.after ∙ sym (replaced comment_key (c.args.comment.node ∷ []) items c.in-Ok.place c.args.comment refl c.requires place)
    ∙ ap (λ l. put_in comment_key c.args.comment l) (comments-without items c.args.comment.node)

pub returns-in-Err-clause-ok : goal.returns-in-Err-clause-ok
returns-in-Err-clause-ok c =
    let items : List Comment = c.args.comments.now.items in
    let gap : IsGapFor comment_key (c.args.comment.node ∷ []) items c.in-Err.place = gap-moved comment_key (λ i. c.node.ensures i ∷ []) c.as_slice.ensures.value c.in-Err.ensures.gap in
    on-ok c.insert_at.result c.insert_at.ensures.ok (λ put. put ∙ sym (put-new comment_key (c.args.comment.node ∷ []) items c.in-Err.place c.args.comment refl gap)
    ∙ ap (λ l. put_in comment_key c.args.comment l) (comments-without items c.args.comment.node))
