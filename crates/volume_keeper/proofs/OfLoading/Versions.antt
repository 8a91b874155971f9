-- Of which version records are, and rows.
use Rattle.std.proofs.Common.{◌≡◌, ◌∙◌, ◌⊎◌, ℕ, List, [], ◌∷◌, refl, sym, ap, subst, arith, inl, inr}
use Rattle.std.specs.Prelude.{None, true, false, cond, ◌==◌}
use Rattle.volume_spec.specs.VolumeState.{VolumeState}
use Rattle.record_keeper.specs.declared.record.Record.{Record}
use Rattle.record_keeper.specs.declared.record.Change.{Change}
use Rattle.volume_keeper_records.specs.declared.rows.TableRow.{TableRow}
use Rattle.volume_keeper_records.specs.FirstBad.{first_bad_record, head_value, version_in}
use Rattle.volume_keeper_records.specs.Image.{IsOld, image, old, rows_of, tables_of}
use Rattle.volume_keeper_records.specs.Loaded.{IsVolumeOf}
use Rattle.volume_keeper_records.specs.Records.{old_version, version}
use Rattle.volume_keeper_records.specs.Shape.{word_at}
use Rattle.volume_keeper_records.proofs.Versions.{image_says, old_says}
use Rattle.volume_keeper.specs.loading.lemma.Loading.{AreRowsOf, IsMadeOf, IsMadeOfRows}

pub two_versions : version ≡ old_version → ⊥
two_versions e = absurd (omega (arith, e))

pub version_either : (records : List Record) → (version_in records ≡ version) ⊎ (version_in records ≡ old_version)
version_either records = elim (word_at (head_value records) 0 == old_version) as (λ b. (cond b old_version version ≡ version) ⊎ (cond b old_version version ≡ old_version)) [ true ↦ inr refl | false ↦ inl refl ]

-- ---- rows that were read

module _ (name : List ℕ) (records : List Record) (rows : List TableRow) (v : VolumeState) (is : IsVolumeOf name records rows v) where
  rows_new : image v ≡ records → rows ≡ rows_of (tables_of version v)
  rows_new same = is.has_rows ∙ ap (λ (n : ℕ). rows_of (tables_of n v)) (ap version_in (sym same) ∙ image_says v)

  rows_old : old v ≡ records → rows ≡ rows_of (tables_of old_version v)
  rows_old same = is.has_rows ∙ ap (λ (n : ℕ). rows_of (tables_of n v)) (ap version_in (sym same) ∙ old_says v)

  pub rows_either : AreRowsOf rows v
  rows_either = record {
    whole = record { sound = is.has_records.volume.sound; typed = is.has_records.volume.typed };
    either = elim is.has_records.image [
      | inl same ↦ inl (rows_new same)
      | inr two ↦ inr (two.0, rows_old two.1)
    ];
  }

  pub made_of_records : (now : ℕ) (changes : List Change) (made : VolumeState) → (records ≡ [] → ⊥) → first_bad_record name records ≡ None → IsMadeOfRows rows changes made v → IsMadeOf name now records changes made
  made_of_records now changes made some good m = subst (IsMadeOf name now records changes) (sym m.is) (record {
    good = good;
    sound = is.has_records.volume.sound;
    named = is.has_records.volume.named;
    how = inr (elim is.has_records.image [
      | inl same ↦ inl (record { some = some; image = same; still = m.again (rows_new same) })
      | inr two ↦ inr (record { some = some; guests = two.0; older = two.1; migrated = m.raised (rows_old two.1) })
    ]);
  })
