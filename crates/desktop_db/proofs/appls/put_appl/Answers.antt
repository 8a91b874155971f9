use Rattle.std.proofs.Common.{◌≡◌, ◌∙◌, ap, sym, refl, ◌++◌, ◌∷◌, [], ◌≤◌, List, length, slice_set, arith}
use Rattle.volume_spec.specs.SoundVolume.{appl_key, most_appls}
use Rattle.volume_spec.specs.VolumeState.{Appl}
use Rattle.desktop_db.specs.lemma.Places.{IsPlaceOf, IsGapFor}
use Rattle.desktop_db.proofs.Places.{gap-moved, known-has-room, new-has-no-room, place-moved, put-new, replaced}
use Rattle.desktop_db.proofs.appls.put_appl.Goals as goal

pub returns-then-len-ge-MOST_APPLS-clause-full : goal.returns-then-len-ge-MOST_APPLS-clause-full
returns-then-len-ge-MOST_APPLS-clause-full c =
    let items : List Appl = c.args.appls.now.items in
    let gap : IsGapFor appl_key (appl_key c.args.appl) items c.in-Err.place = gap-moved appl_key (λ i. c.creator.ensures i ++ c.node.ensures i ∷ []) c.as_slice.ensures.value c.in-Err.ensures.gap in
    let length_is : length c.as_slice.result.now ≡ length items = ap length c.as_slice.ensures.value in
    let many : most_appls ≤ length items = omega (arith, c.as_slice.ensures.len, c.len.ensures, c.if-len-ge-MOST_APPLS.true) in
    (λ same. new-has-no-room appl_key (appl_key c.args.appl) most_appls items c.in-Err.place many gap, λ full. refl)

pub returns-in-Ok-clause-ok : goal.returns-in-Ok-clause-ok
returns-in-Ok-clause-ok c =
    let items : List Appl = c.args.appls.now.items in
    let place : IsPlaceOf appl_key (appl_key c.args.appl) items c.in-Ok.place = place-moved appl_key (λ i. c.creator.ensures i ++ c.node.ensures i ∷ []) c.as_slice.ensures.value c.in-Ok.ensures.found in
    ap (λ x. slice_set items c.in-Ok.place x) c.replace-old.ensures.after ∙ sym (replaced appl_key (appl_key c.args.appl) items c.in-Ok.place c.args.appl refl c.requires place)

pub returns-in-Ok-clause-full : goal.returns-in-Ok-clause-full
returns-in-Ok-clause-full c =
    let items : List Appl = c.args.appls.now.items in
    let place : IsPlaceOf appl_key (appl_key c.args.appl) items c.in-Ok.place = place-moved appl_key (λ i. c.creator.ensures i ++ c.node.ensures i ∷ []) c.as_slice.ensures.value c.in-Ok.ensures.found in
    (λ same. absurd (cc), λ full. absurd (cc (known-has-room appl_key (appl_key c.args.appl) most_appls items c.in-Ok.place c.requires place)))

pub returns-in_ok-insert_at-in-Err-clause-ok : goal.returns-in_ok-insert_at-in-Err-clause-ok
returns-in_ok-insert_at-in-Err-clause-ok c =
    let items : List Appl = c.args.appls.now.items in
    let gap : IsGapFor appl_key (appl_key c.args.appl) items c.in-Err.place = gap-moved appl_key (λ i. c.creator.ensures i ++ c.node.ensures i ∷ []) c.as_slice.ensures.value c.in-Err.ensures.gap in
    c.in_ok-insert_at-in-Err.ensures.ok ∙ sym (put-new appl_key (appl_key c.args.appl) items c.in-Err.place c.args.appl refl gap)
