use Rattle.std.proofs.Common.{◌∙◌, ap, sym, refl, List}
use Rattle.std.specs.Prelude.{is_some}
use Rattle.volume_spec.specs.Desktop.{pair_key}
use Rattle.volume_spec.specs.SoundVolume.{appl_key}
use Rattle.volume_spec.specs.VolumeState.{Appl}
use Rattle.desktop_db.specs.lemma.Places.{IsPlaceOf, IsGapFor}
use Rattle.desktop_db.proofs.Places.{gap-moved, not-found, not-taken, place-moved, place-there, taken}
use Rattle.desktop_db.proofs.appls.take_appl.Goals as goal

pub returns-in-Ok-clause-taken : goal.returns-in-Ok-clause-taken
returns-in-Ok-clause-taken c =
    let items : List Appl = c.args.appls.now.items in
    let place : IsPlaceOf appl_key (pair_key c.args.creator.now c.args.node.0) items c.in-Ok.place = place-moved appl_key refl c.as_slice.ensures.value c.in-Ok.ensures.found in
    sym (place-there appl_key (pair_key c.args.creator.now c.args.node.0) items c.in-Ok.place c.requires place)

pub returns-in-Ok-clause-items : goal.returns-in-Ok-clause-items
returns-in-Ok-clause-items c =
    let items : List Appl = c.args.appls.now.items in
    let place : IsPlaceOf appl_key (pair_key c.args.creator.now c.args.node.0) items c.in-Ok.place = place-moved appl_key refl c.as_slice.ensures.value c.in-Ok.ensures.found in
    c.remove-appl.ensures.items ∙ sym (taken appl_key (pair_key c.args.creator.now c.args.node.0) items c.in-Ok.place c.requires place)

pub returns-in-Err-clause-taken : goal.returns-in-Err-clause-taken
returns-in-Err-clause-taken c =
    let items : List Appl = c.args.appls.now.items in
    let gap : IsGapFor appl_key (pair_key c.args.creator.now c.args.node.0) items c.in-Err.field-0 = gap-moved appl_key refl c.as_slice.ensures.value c.in-Err.ensures.gap in
    sym (ap is_some (not-found appl_key (pair_key c.args.creator.now c.args.node.0) items c.in-Err.field-0 gap))

pub returns-in-Err-clause-items : goal.returns-in-Err-clause-items
returns-in-Err-clause-items c =
    let items : List Appl = c.args.appls.now.items in
    let gap : IsGapFor appl_key (pair_key c.args.creator.now c.args.node.0) items c.in-Err.field-0 = gap-moved appl_key refl c.as_slice.ensures.value c.in-Err.ensures.gap in
    sym (not-taken appl_key (pair_key c.args.creator.now c.args.node.0) items c.in-Err.field-0 gap)
