use Rattle.std.proofs.Common.{refl}
use Rattle.desktop_db.proofs.Places.{gap-moved, on-ok, place-moved}
use Rattle.volume_changes.specs.steps.lemma.Put.{id_key}
use Rattle.volume_changes.proofs.OfSteps.Putting.{with-gap, with-place}
use Rattle.volume_changes.proofs.steps.put.put_id.Goals as goal

pub returns-in-Ok : goal.returns-in-Ok
returns-in-Ok c = with-place id_key c.args.id c.args.ids.now.items c.in-Ok.field-0 c.requires (place-moved id_key refl c.as_slice.ensures.value c.in-Ok.ensures.found)

pub returns-in-Err : goal.returns-in-Err
returns-in-Err c =
    on-ok c.insert_at.result c.insert_at.ensures (λ put. with-gap id_key c.args.id c.args.ids.now.items _ c.in-Err.place c.requires (gap-moved id_key refl c.as_slice.ensures.value c.in-Err.ensures.gap) put)
