use Rattle.std.proofs.Common.{refl}
use Rattle.desktop_db.proofs.Places.{gap-moved, on-ok, place-moved}
use Rattle.volume_changes.specs.steps.lemma.Put.{mapping_key}
use Rattle.volume_changes.proofs.OfSteps.Putting.{with-gap, with-place}
use Rattle.volume_changes.proofs.steps.put.put_mapping.Goals as goal

pub returns-in-Ok : goal.returns-in-Ok
returns-in-Ok c = with-place mapping_key c.args.mapping c.args.mappings.now.items c.in-Ok.field-0 c.requires (place-moved mapping_key refl c.as_slice.ensures.value c.in-Ok.ensures.found)

pub returns-in-Err : goal.returns-in-Err
returns-in-Err c =
    on-ok c.insert_at.result c.insert_at.ensures (λ put. with-gap mapping_key c.args.mapping c.args.mappings.now.items _ c.in-Err.place c.requires (gap-moved mapping_key refl c.as_slice.ensures.value c.in-Err.ensures.gap) put)
