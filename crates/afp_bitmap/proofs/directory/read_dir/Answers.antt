use Rattle.std.proofs.Common.{◌≡◌, ◌∙◌, Ok, ap, rules, arith, w32, to_z, of_z}
use Rattle.std.proofs.lemmas.Int.{to_z-of_z}
use Rattle.std.proofs.lemmas.Result.{err_from_is_err_and}
use Rattle.afp_bitmap.proofs.Tables.{dir_small}
use Rattle.afp_bitmap.proofs.Taken.{dir_taken}
use Rattle.afp_bitmap.proofs.Walks.{bind_fails, bind_ok}
use Rattle.afp_bitmap.specs.lemma.Read.{dir_at}
use Rattle.afp_bitmap.proofs.directory.read_dir.Goals as goal

pub judge-requires : goal.judge-requires
judge-requires c = omega (arith, dir_small c.args.bits)

pub returns-in_err-names : goal.returns-in_err-names
unfolding dir_at
returns-in_err-names c =
    let p = err_from_is_err_and c.from_residual.result c.from_residual.ensures.1 in
    rw (p.1, p.2) (bind_fails c.in_err-names.field-0.0 _ _ c.in_err-names.ensures)

pub returns : goal.returns
unfolding dir_at
returns c =
    let created : to_z w32 (of_z w32 c.date-created.result) ≡ c.date-created.result = to_z-of_z w32 c.date-created.result (search rules) in
    let modified : to_z w32 (of_z w32 c.date-modified.result) ≡ c.date-modified.result = to_z-of_z w32 c.date-modified.result (search rules) in
    let backup : to_z w32 (of_z w32 c.date-backup.result) ≡ c.date-backup.result = to_z-of_z w32 c.date-backup.result (search rules) in
    rw (c.in_ok-long_name.ensures, c.in_ok-utf8_name.ensures)
    (bind_ok _ _ _ c.in_ok-names.ensures
    ∙ ap (λ v. Ok v)
    (dir_taken _ _ _ _ _ _ _ _ _ _ _ _ _ _ _ _ _ _ _ _ _ _ _ _ _ _ _ _ _
    c.new-fields.ensures c.short-attributes.ensures.took c.long-parent.ensures.took c.date-created.ensures.took c.date-modified.ensures.took c.date-backup.ensures.took c.finder-finder.ensures.took c.skip.ensures c.long-id.ensures.took c.short-offspring.ensures.took c.long-owner.ensures.took c.long-group.ensures.took c.long-rights.ensures.took c.skip-2.ensures
    c.short-attributes.ensures.value c.long-parent.ensures.value (created ∙ c.date-created.ensures.value) (modified ∙ c.date-modified.ensures.value) (backup ∙ c.date-backup.ensures.value) c.finder-finder.ensures.value c.long-id.ensures.value c.short-offspring.ensures.value c.long-owner.ensures.value c.long-group.ensures.value c.long-rights.ensures.value))
