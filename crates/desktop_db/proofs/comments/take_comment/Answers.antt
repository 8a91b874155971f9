use Rattle.std.proofs.Common.{◌∙◌, ap, sym, refl, ◌∷◌, [], List}
use Rattle.std.specs.Prelude.{is_some}
use Rattle.volume_spec.specs.Desktop.{comment_key}
use Rattle.volume_spec.specs.VolumeState.{Comment}
use Rattle.desktop_db.specs.lemma.Places.{IsPlaceOf, IsGapFor}
use Rattle.desktop_db.proofs.Numbers.{comments-at, comments-without}
use Rattle.desktop_db.proofs.Places.{gap-moved, not-found, not-taken, place-moved, place-there, taken}
use Rattle.desktop_db.proofs.comments.take_comment.Goals as goal

pub returns-in-Ok-clause-taken : goal.returns-in-Ok-clause-taken
returns-in-Ok-clause-taken c =
    let items : List Comment = c.args.comments.now.items in
    let place : IsPlaceOf comment_key (c.args.node.0 ∷ []) items c.in-Ok.place = place-moved comment_key refl c.as_slice.ensures.value c.in-Ok.ensures.found in
    sym (place-there comment_key (c.args.node.0 ∷ []) items c.in-Ok.place c.requires place) ∙ ap is_some (comments-at items c.args.node.0)

pub returns-in-Ok-clause-items : goal.returns-in-Ok-clause-items
returns-in-Ok-clause-items c =
    let items : List Comment = c.args.comments.now.items in
    let place : IsPlaceOf comment_key (c.args.node.0 ∷ []) items c.in-Ok.place = place-moved comment_key refl c.as_slice.ensures.value c.in-Ok.ensures.found in
    c.remove-comment.ensures.items ∙ sym (taken comment_key (c.args.node.0 ∷ []) items c.in-Ok.place c.requires place) ∙ comments-without items c.args.node.0

pub returns-in-Err-clause-taken : goal.returns-in-Err-clause-taken
returns-in-Err-clause-taken c =
    let items : List Comment = c.args.comments.now.items in
    let gap : IsGapFor comment_key (c.args.node.0 ∷ []) items c.in-Err.field-0 = gap-moved comment_key refl c.as_slice.ensures.value c.in-Err.ensures.gap in
    sym (ap is_some (not-found comment_key (c.args.node.0 ∷ []) items c.in-Err.field-0 gap)) ∙ ap is_some (comments-at items c.args.node.0)

pub returns-in-Err-clause-items : goal.returns-in-Err-clause-items
returns-in-Err-clause-items c =
    let items : List Comment = c.args.comments.now.items in
    let gap : IsGapFor comment_key (c.args.node.0 ∷ []) items c.in-Err.field-0 = gap-moved comment_key refl c.as_slice.ensures.value c.in-Err.ensures.gap in
    sym (not-taken comment_key (c.args.node.0 ∷ []) items c.in-Err.field-0 gap) ∙ comments-without items c.args.node.0
