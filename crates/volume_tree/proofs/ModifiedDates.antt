-- Another modified date of a row that was found.
use Rattle.std.proofs.Common.{◌==◌, ◌≡◌, ◌∙◌, ap, refl, ℕ, true, List, [], ◌∷◌, map, Some, None}
use Rattle.std.specs.Prelude.{ℤ, Bool, slice_get}
use Rattle.std.specs.List.{find}
use Rattle.std.proofs.lemmas.Bool.{cond_both, cond-false}
use Rattle.node_rows.specs.Kept.{IsPlaceOf, marked}
use Rattle.node_rows.specs.declared.node.Marks.{Marks}
use Rattle.volume_spec.proofs.Orders.{rising-ids-differ}
use Rattle.volume_spec.proofs.SoundEdits.{changed-same}
use Rattle.volume_spec.specs.Edits.{with_changed, change_at, filed_as}
use Rattle.volume_spec.specs.SetFileDirParms.{Settings, with_settings}
use Rattle.volume_spec.specs.SoundVolume.{has_rising_ids}
use Rattle.volume_spec.specs.VolumeState.{Row}
use Rattle.volume_spec.specs.Walk.{row_at}
use Rattle.volume_tree.specs.lemma.Edited.{modified_on}
use Rattle.volume_tree.specs.lemma.Kept.{IsMarks, IsMarksSet}

-- where no row has the id, nothing changes
pub changed-missing : (rows : List Row) (id : ℕ) (change : Row → Row) → row_at rows id ≡ None → with_changed id change rows ≡ rows
unfolding row_at with_changed
changed-missing [] id change found = refl
changed-missing (row ∷ rows) id change found =
    cond_both (row.id == id) (Some row) (find (λ (r : Row). r.id == id) rows)
    (λ o. o ≡ None → change_at id change row ∷ map (change_at id change) rows ≡ row ∷ rows)
    (λ here h. absurd (cc))
    (λ other h. λ i. cond-false (row.id == id) (change row) row other i ∷ changed-missing rows id change h i)
    found

-- other marks of a row that was found are a change of it
pub marked-same : (rows : List Row) (id : ℕ) (marks : Marks) (change : Row → Row) (s : Row) → has_rising_ids rows ≡ true → row_at rows id ≡ Some s → marked marks s ≡ change s → with_changed id (marked marks) rows ≡ with_changed id change rows
unfolding row_at with_changed
marked-same rows id marks change s rising found same = changed-same rows id (marked marks) change s (rising-ids-differ rows rising) found same

pub filed-same : (rows : List Row) (id place : ℕ) (filed : Bool) (marks new : Marks) → has_rising_ids rows ≡ true → IsPlaceOf rows id (Some place) → IsMarks marks (slice_get rows place) → new ≡ record marks { filed = filed } → with_changed id (marked new) rows ≡ with_changed id (filed_as filed) rows
filed-same rows id place filed marks new rising stands found is =
    marked-same rows id new (filed_as filed) found.0 rising (stands.1 ∙ found.1) (ap (λ (m : Marks). marked m found.0) is ∙ ap (filed_as filed) found.2)

pub dated-same : (rows : List Row) (id place : ℕ) (date : ℤ) (marks new : Marks) → has_rising_ids rows ≡ true → IsPlaceOf rows id (Some place) → IsMarks marks (slice_get rows place) → new ≡ record marks { modified = date } → with_changed id (marked new) rows ≡ with_changed id (modified_on date) rows
dated-same rows id place date marks new rising stands found is =
    marked-same rows id new (modified_on date) found.0 rising (stands.1 ∙ found.1) (ap (λ (m : Marks). marked m found.0) is ∙ ap (modified_on date) found.2)

pub set-same : (rows : List Row) (id place : ℕ) (settings : Settings) (marks : Marks) → has_rising_ids rows ≡ true → IsPlaceOf rows id (Some place) → IsMarksSet settings marks (slice_get rows place) → with_changed id (marked marks) rows ≡ with_changed id (with_settings settings) rows
set-same rows id place settings marks rising stands found = marked-same rows id marks (with_settings settings) found.0 rising (stands.1 ∙ found.1) found.2
