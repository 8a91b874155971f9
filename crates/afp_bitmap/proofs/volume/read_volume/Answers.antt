use Rattle.std.proofs.Common.{◌≡◌, ◌∙◌, Ok, ap, rules, arith, w32, to_z, of_z}
use Rattle.std.proofs.lemmas.Int.{to_z-of_z}
use Rattle.std.proofs.lemmas.Result.{err_from_is_err_and}
use Rattle.afp_bitmap.proofs.Tables.{volume_small}
use Rattle.afp_bitmap.proofs.Taken.{volume_taken}
use Rattle.afp_bitmap.proofs.Walks.{bind_fails, bind_ok}
use Rattle.afp_bitmap.specs.lemma.Read.{volume_at}
use Rattle.afp_bitmap.proofs.volume.read_volume.Goals as goal

pub judge-requires : goal.judge-requires
judge-requires c = omega (arith, volume_small c.args.bits)

pub returns-in_err-names : goal.returns-in_err-names
unfolding volume_at
returns-in_err-names c =
    let p = err_from_is_err_and c.from_residual.result c.from_residual.ensures.1 in
    rw (p.1, p.2) (bind_fails c.in_err-names.field-0.0 _ _ c.in_err-names.ensures)

pub returns : goal.returns
unfolding volume_at
returns c =
    let created : to_z w32 (of_z w32 c.date-created.result) ≡ c.date-created.result = to_z-of_z w32 c.date-created.result (search rules) in
    let modified : to_z w32 (of_z w32 c.date-modified.result) ≡ c.date-modified.result = to_z-of_z w32 c.date-modified.result (search rules) in
    let backup : to_z w32 (of_z w32 c.date-backup.result) ≡ c.date-backup.result = to_z-of_z w32 c.date-backup.result (search rules) in
    rw (c.in_ok-name.ensures)
    (bind_ok _ _ _ c.in_ok-names.ensures
    ∙ ap (λ v. Ok v)
    (volume_taken _ _ _ _ _ _ _ _ _ _ _ _ _ _ _ _ _ _ _ _ _ _ _ _ _ _ _
    c.new-fields.ensures c.short-attributes.ensures.took c.short-signature.ensures.took c.date-created.ensures.took c.date-modified.ensures.took c.date-backup.ensures.took c.short-volume.ensures.took c.long-free.ensures.took c.long-total.ensures.took c.skip.ensures c.wide-ext_free.ensures.took c.wide-ext_total.ensures.took c.long-block_size.ensures.took
    c.short-attributes.ensures.value c.short-signature.ensures.value (created ∙ c.date-created.ensures.value) (modified ∙ c.date-modified.ensures.value) (backup ∙ c.date-backup.ensures.value) c.short-volume.ensures.value c.long-free.ensures.value c.long-total.ensures.value c.wide-ext_free.ensures.value c.wide-ext_total.ensures.value c.long-block_size.ensures.value))
