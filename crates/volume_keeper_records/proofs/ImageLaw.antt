-- Records are good exactly where they are those of a volume, and of one alone.
use Rattle.std.proofs.Common.{◌≡◌, ◌∙◌, ℕ, zero, suc, ◌<◌, arith, Bool, true, false, cond, List, [], ◌∷◌, map, length, drop, refl, sym, ap, subst, inl, inr, ◌⊎◌}
use Rattle.std.specs.Prelude.{None, T, nat_lt, ◌||◌, ◌==◌}
use Rattle.std.specs.FinMap.{entries, entries_sorted, entries-from_sorted, same_entries_map}
use Rattle.std.specs.FinMap.Entries.{is_sorted, below_all}
use Rattle.std.specs.Cmp.Lexicographic.{slice_cmp}
use Rattle.std.specs.Ordering.{nat_cmp}
use Rattle.std.proofs.lemmas.Bool.{ltb-true, eqb-true, cases_Bool, cond_both}
use Rattle.volume_spec.specs.VolumeState.{VolumeState}
use Rattle.volume_spec.specs.SoundVolume.{IsSoundVolume}
use Rattle.record_keeper.specs.declared.record.Record.{Record}
use Rattle.volume_keeper_records.specs.Records.{record_of, old_version, version}
use Rattle.volume_keeper_records.specs.Image.{Tables, Records, rows_of, tables_of, tables_in, image, kept_image, records_in, entries_of, image_in, old, kept_old, IsOld, kept_in}
use Rattle.volume_keeper_records.specs.KeyOrder.{IsBelow, RisesByKey, with_head_and_root}
use Rattle.record_keeper.specs.Reading.{most_records}
use Rattle.volume_keeper_records.specs.FirstBad.{rows_in, first_bad_among, first_bad_record, too_many, version_in, label_of, head_value}
use Rattle.volume_keeper_records.specs.Laws.{IsVolume, HasRecords, HasKeptRecords}
use Rattle.volume_keeper_records.proofs.Whole.{IsWhole, counted_made, whole_good, tables_read}
use Rattle.volume_keeper_records.proofs.ForkParts.{ForkLaw, volume_of}
use Rattle.volume_keeper_records.proofs.VolumeTables.{tables_again, volume_typed, volume_old}
use Rattle.volume_keeper_records.proofs.VolumeSound.{volume_sound}
use Rattle.volume_keeper_records.proofs.ImageClear.{image_whole, image_few, volume_again}
use Rattle.volume_keeper_records.proofs.ImageRises.{image_rises}
use Rattle.volume_keeper_records.proofs.LookUps.{sorted_entries}
use Rattle.afp_base.proofs.Facts.{T_is_lt_less, T_left, T_right, or_without}
use Rattle.volume_keeper_records.specs.Shape.{Label, word_at}
use Rattle.volume_spec.specs.TypedVolume.{is_word}

-- where there are more records than so many, one stands behind them
none_over : (k : ℕ) (rs : List Record) → k < length rs → too_many (drop k rs) ≡ None → ⊥
none_over k [] h e = absurd (omega arith)
none_over zero (r ∷ rs) h e = absurd (cc)
none_over (suc k) (r ∷ rs) h e = none_over k rs (omega arith) e

-- the two versions
abbrev of_version : ℕ → List ℕ → Label
of_version version name = record { version = version; name = name }

module _ (law : ForkLaw) where
  whole_of : (version : ℕ) → is_word version ≡ true → (name : List ℕ) (v : VolumeState) → IsVolume name v → IsWhole (of_version version name) (tables_of version v)
  whole_of version word name v i = subst (λ n. IsWhole (of_version version n) (tables_of version v)) i.named (image_whole version word law v i.sound i.typed)

  pub images_rise : (v : VolumeState) (version : ℕ) → IsSoundVolume v → RisesByKey (image_in version v)
  images_rise v version s = image_rises version law v s

  pub images_good : (name : List ℕ) (v : VolumeState) → IsVolume name v → first_bad_record name (image v) ≡ None
  images_good name v i = whole_good (of_version version name) (tables_of version v) refl (whole_of version refl name v i) (image_few version law v i.sound)

  pub old_good : (name : List ℕ) (v : VolumeState) → IsVolume name v → first_bad_record name (old v) ≡ None
  old_good name v i = whole_good (of_version old_version name) (tables_of old_version v) refl (whole_of old_version refl name v i) (image_few old_version law v i.sound)

  -- the volume of whole tables
  pub whole_volume : (label : Label) (t : Tables) → IsWhole label t → IsVolume label.name (volume_of label.name t)
  whole_volume label t w = record { sound = volume_sound law label t w; typed = volume_typed label t w; named = refl }

  few_only : (label : Label) (r : Record) (records : List Record) (b : Bool) → cond b (too_many (drop most_records (r ∷ records))) (first_bad_among label (with_head_and_root (r ∷ records))) ≡ None → nat_lt most_records (length (r ∷ records)) ≡ b → first_bad_among label (with_head_and_root (r ∷ records)) ≡ None
  few_only label r records false e h = e
  few_only label r records true e h = absurd (none_over most_records (r ∷ records) (ltb-true _ _ h) e)

  -- records of one version or the other
  pub either_image : (label : Label) (t : Tables) (records : List Record) → ((label.version == version) || (label.version == old_version)) ≡ true → IsWhole label t → map record_of (rows_of t) ≡ records
      → (image (volume_of label.name t) ≡ records) ⊎ (IsOld (volume_of label.name t) × (old (volume_of label.name t) ≡ records))
  either_image label t records known w is = elim (cases_Bool (label.version == old_version)) [
    | inl is_old ↦ inr (volume_old label t w is_old, ap (λ n. image_in n (volume_of label.name t)) (sym (eqb-true _ _ is_old)) ∙ again)
    | inr is_new ↦ inl (ap (λ n. image_in n (volume_of label.name t)) (sym (eqb-true _ _ (sym (or_without (label.version == version) (label.version == old_version) is_new) ∙ known))) ∙ again)
  ]
    where
      again : image_in label.version (volume_of label.name t) ≡ records
      again = ap (λ (u : Tables). map record_of (rows_of u)) (tables_again law label t w) ∙ is

  pub known_version : (records : List Record) → ((version_in records == version) || (version_in records == old_version)) ≡ true
  known_version records = cond_both (word_at (head_value records) 0 == old_version) old_version version (λ v. ((v == version) || (v == old_version)) ≡ true) (λ is. refl) (λ other. refl)

  pub good_images : (name : List ℕ) (records : List Record) → RisesByKey records → (records ≡ [] → ⊥) → first_bad_record name records ≡ None → (v : VolumeState) × HasRecords name records v
  good_images name [] s n e = absurd (n refl)
  good_images name (r ∷ records) s n e =
      let label : Label = label_of name (r ∷ records) in
      let good = few_only (label_of name (r ∷ records)) r records (nat_lt most_records (length (r ∷ records))) e refl in
      let made = counted_made (label_of name (r ∷ records)) (r ∷ records) s good in
      let t : Tables = tables_in (rows_in (label_of name (r ∷ records)) (with_head_and_root (r ∷ records))) in (
        volume_of name (tables_in (rows_in (label_of name (r ∷ records)) (with_head_and_root (r ∷ records)))),
        record {
          volume = whole_volume (label_of name (r ∷ records)) (tables_in (rows_in (label_of name (r ∷ records)) (with_head_and_root (r ∷ records)))) made.0;
          image = either_image (label_of name (r ∷ records)) (tables_in (rows_in (label_of name (r ∷ records)) (with_head_and_root (r ∷ records)))) (r ∷ records) (known_version (r ∷ records)) made.0 made.1;
        },
      )

  pub images_differ : (name : List ℕ) (v w : VolumeState) → IsVolume name v → IsVolume name w → image v ≡ image w → v ≡ w
  images_differ name v w i j e =
      let label : Label = of_version version name in
      let tables : tables_of version v ≡ tables_of version w = sym (tables_read label (tables_of version v) (whole_of version refl name v i)) ∙ ap (λ (x : List Record). tables_in (rows_in (of_version version name) x)) e ∙ tables_read label (tables_of version w) (whole_of version refl name w j) in
      sym (volume_again version law v i.sound refl) ∙ (λ k. volume_of ((i.named ∙ sym j.named) k) (tables k)) ∙ volume_again version law w j.sound refl

-- ---- maps

abbrev pub records_by : List (List ℕ × List ℕ) → List Record
records_by es = map (λ e. record { key = e.0; value = e.1 }) es

below_records : (k : List ℕ) (es : List (List ℕ × List ℕ)) → T (below_all (slice_cmp nat_cmp) k es) → IsBelow k (records_by es)
below_records k [] b = tt
below_records k (e ∷ es) b = (T_is_lt_less _ (T_left _ _ b), below_records k es (T_right _ _ b))

rising_records : (es : List (List ℕ × List ℕ)) → T (is_sorted (slice_cmp nat_cmp) es) → RisesByKey (records_by es)
rising_records [] s = tt
rising_records (e ∷ es) s = (below_records e.0 es (T_left _ _ s), rising_records es (T_right _ _ s))

there_and_back : (rs : List Record) → records_by (entries_of rs) ≡ rs
there_and_back [] = refl
there_and_back (r ∷ rs) = ap (λ (x : List Record). r ∷ x) (there_and_back rs)

back_and_there : (es : List (List ℕ × List ℕ)) → entries_of (records_by es) ≡ es
back_and_there [] = refl
back_and_there (e ∷ es) = ap (λ (x : List (List ℕ × List ℕ)). e ∷ x) (back_and_there es)

module _ (law : ForkLaw) where
  image_entries : (version : ℕ) (name : List ℕ) (v : VolumeState) → IsVolume name v → entries (kept_in version v) ≡ entries_of (image_in version v)
  image_entries version name v i = entries-from_sorted (slice_cmp nat_cmp) (entries_of (image_in version v)) (sorted_entries (image_in version v) (images_rise law v version i.sound))

  image_records : (version : ℕ) (name : List ℕ) (v : VolumeState) → IsVolume name v → records_in (kept_in version v) ≡ image_in version v
  image_records version name v i = ap records_by (image_entries version name v i) ∙ there_and_back (image_in version v)

  pub kept_good : (name : List ℕ) (v : VolumeState) → IsVolume name v → first_bad_record name (records_in (kept_image v)) ≡ None
  kept_good name v i = ap (first_bad_record name) (image_records version name v i) ∙ images_good law name v i

  some_records : (m : Records) → (entries m ≡ [] → ⊥) → records_in m ≡ [] → ⊥
  some_records m n e = n (sym (back_and_there (entries m)) ∙ ap entries_of e)

  same_kept : (version : ℕ) (name : List ℕ) (v : VolumeState) (m : Records) → IsVolume name v → image_in version v ≡ records_in m → kept_in version v ≡ m
  same_kept version name v m i e = same_entries_map (kept_in version v) m (image_entries version name v i ∙ ap entries_of e ∙ back_and_there (entries m))

  pub good_kept : (name : List ℕ) (kept : Records) → (entries kept ≡ [] → ⊥) → first_bad_record name (records_in kept) ≡ None → (v : VolumeState) × HasKeptRecords name kept v
  good_kept name m n e =
      let found = good_images law name (records_in m) (rising_records (entries m) (entries_sorted m)) (some_records m n) e in
      (found.0, record { volume = found.1.volume; image = either found.0 found.1.volume found.1.image })
    where
      either : (v : VolumeState) → IsVolume name v → (image v ≡ records_in m) ⊎ (IsOld v × (old v ≡ records_in m)) → (kept_image v ≡ m) ⊎ (IsOld v × (kept_old v ≡ m))
      either v i (inl is) = inl (same_kept version name v m i is)
      either v i (inr is) = inr (is.0, same_kept old_version name v m i is.1)

  pub kept_differ : (name : List ℕ) (v w : VolumeState) → IsVolume name v → IsVolume name w → kept_image v ≡ kept_image w → v ≡ w
  kept_differ name v w i j e = images_differ law name v w i j (sym (image_records version name v i) ∙ ap records_in e ∙ image_records version name w j)
