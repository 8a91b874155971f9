-- What a load does to the records that are told.
use Rattle.std.proofs.Common.{◌≡◌, ◌∙◌, ℕ, zero, suc, true, false, cond, List, [], ◌∷◌, ◌||◌, map, length, drop, refl, sym, ap, subst, arith, inl, inr}
use Rattle.std.specs.Prelude.{Option, Some, None, IfSome, option_map, Result, Ok, Err, IfOk, IfErr, OnOk, OnErr, nat_lt}
use Rattle.std.specs.List.{slice_get}
use Rattle.std.specs.FinMap.{entries, find, from_sorted, entries-from_sorted, get-entries, same_entries_map}
use Rattle.std.proofs.lemmas.Option.{same_Some}
use Rattle.volume_spec.specs.VolumeState.{VolumeState}
use Rattle.volume_spec.specs.SoundVolume.{IsSoundVolume}
use Rattle.record_keeper.specs.declared.record.Record.{Record}
use Rattle.record_keeper.specs.declared.record.Change.{Change}
use Rattle.record_keeper.specs.declared.reading.ReadAllFault.{ReadAllFault}
use Rattle.record_keeper.specs.declared.reading.ReadAllFault.TheVariants as read
use Rattle.record_keeper.specs.Records.{Records, Makes, changed, same_records}
use Rattle.record_keeper.specs.Reading.{IsAll, IsFaultOf, RisesByKey, entry_of, most_records}
use Rattle.record_keeper.proofs.KeptRows.{alike, by_bytes}
use Rattle.volume_keeper_records.specs.declared.rows.Reason.TheVariants.{Limit}
use Rattle.volume_keeper_records.specs.declared.rows.TableRow.{TableRow}
use Rattle.volume_keeper_records.specs.FirstBad.{first_bad_among, first_bad_record, label_of, too_many, version_in}
use Rattle.volume_keeper_records.specs.Image.{entries_of, image_in, kept_in, records_in, rows_of, tables_of}
use Rattle.volume_keeper_records.specs.KeyOrder.{with_head_and_root}
use Rattle.volume_keeper_records.specs.Laws.{ImagesRise}
use Rattle.volume_keeper_records.specs.Migration.{MigrationGivesImage, migration, put_of}
use Rattle.volume_keeper_records.specs.Records.{old_version, record_of, version}
use Rattle.volume_keeper_records.proofs.LookUps.{after, after_puts, any_at, are_one, each_found, found, got, got_changed, key_of_row, sorted_entries}
use Rattle.volume_keeper_records.proofs.Versions.{image_says, old_says}
use Rattle.volume_keeper.specs.declared.loading.loading.LoadFault.{LoadFault}
use Rattle.volume_keeper.specs.declared.loading.loading.LoadFault.TheVariants.{BadRecord, Failed, Memory}
use Rattle.volume_keeper.specs.loading.Loading.{Becomes, IsFaultIn, IsLoad, IsLoaded}
use Rattle.volume_keeper.specs.loading.lemma.Loading.{IsMadeAgain, IsMadeFresh, IsMadeOf, IsNotBad, IsRaised, IsReadFault}
use Rattle.volume_edits.specs.edits.Whole.{VolumeValue}
use Rattle.volume_keeper.proofs.OfLoading.Versions.{two_versions}

-- ---- rows that are put where nothing is kept

-- where no row has the key, none is found
none_there : (xs : List TableRow) (q : List ℕ) → cond (any_at xs q) (found xs q) None ≡ found xs q
none_there [] q = refl
none_there (x ∷ xs) q = elim (are_one q (key_of_row x)) as (λ b. cond (b || any_at xs q) (cond b (Some (record_of x).value) (found xs q)) None ≡ cond b (Some (record_of x).value) (found xs q)) [
  | true ↦ refl
  | false ↦ none_there xs q
]

-- rising rows are all that is kept then
all_put : (xs : List TableRow) → RisesByKey (map record_of xs) → (m : Records) → entries m ≡ [] → changed (map put_of xs) m ≡ from_sorted (entries_of (map record_of xs))
all_put xs s m e = alike _ _ (λ q.
    got_changed (map put_of xs) m q
    ∙ ap (after (map put_of xs) q) (get-entries m q ∙ ap (find by_bytes q) e)
    ∙ after_puts xs xs q None (each_found xs s)
    ∙ none_there xs q
    ∙ sym (got xs q s))

-- ---- records and entries

there_and_back : (rs : List Record) → map (λ (e : List ℕ × List ℕ). record { key = e.0; value = e.1 }) (map entry_of rs) ≡ rs
there_and_back [] = refl
there_and_back (r ∷ rs) = ap (λ (x : List Record). r ∷ x) (there_and_back rs)

records_are : (kept : Records) (rs : List Record) → IsAll kept rs → records_in kept ≡ rs
records_are kept rs all = ap (λ (es : List (List ℕ × List ℕ)). map (λ e. record { key = e.0; value = e.1 }) es) all ∙ there_and_back rs

kept_is : (n : ℕ) (v : VolumeState) (kept : Records) (rs : List Record) → RisesByKey rs → IsAll kept rs → image_in n v ≡ rs → kept_in n v ≡ kept
kept_is n v kept rs rises all e =
    ap (λ (l : List Record). from_sorted (entries_of l)) e
    ∙ same_entries_map (from_sorted (entries_of rs)) kept (entries-from_sorted by_bytes (entries_of rs) (sorted_entries rs rises) ∙ sym all)

no_entries : (rs : List Record) → map entry_of rs ≡ [] → rs ≡ []
no_entries [] e = refl
no_entries (r ∷ rs) e = absurd (cc)

-- ---- a volume that was made, and what is kept of it

module _ (rising : ImagesRise) (migrates : MigrationGivesImage) (name : List ℕ) (now : ℕ) (records : List Record) (changes : List Change) (v : VolumeState) (rises : RisesByKey records) (good : first_bad_record name records ≡ None) (sound : IsSoundVolume v)
    (old mid new : Records) (same : mid ≡ old) (all : IsAll mid records) (made : new ≡ changed changes mid) where
  told : records_in old ≡ records
  told = ap records_in (sym same) ∙ records_are mid records all

  none_kept : entries old ≡ [] → records ≡ []
  none_kept none = no_entries records (sym all ∙ ap entries same ∙ none)

  -- there was nothing
  fresh_one : IsMadeFresh name now records changes v → IsLoaded name now old new v
  fresh_one f =
      let none : entries mid ≡ [] = all ∙ ap (map entry_of) f.none in
      record {
        good = ap (first_bad_record name) told ∙ good;
        image = sym (made ∙ ap (λ cs. changed cs mid) f.put ∙ all_put (rows_of (tables_of version v)) (rising v version sound) mid none);
        fresh = λ is. f.fresh;
        same = λ some is. absurd (some (ap entries (sym same) ∙ none));
        migrated = λ is. absurd (two_versions (sym (ap version_in (told ∙ f.none)) ∙ is));
      }

  -- the volume's records were there
  again_one : IsMadeAgain records changes v → IsLoaded name now old new v
  again_one a =
      let still : new ≡ mid = made ∙ ap (λ cs. changed cs mid) a.still in
      record {
        good = ap (first_bad_record name) told ∙ good;
        image = kept_is version v mid records rises all a.image ∙ sym still;
        fresh = λ none. absurd (a.some (none_kept none));
        same = λ some is. still ∙ same;
        migrated = λ is. absurd (two_versions (sym (image_says v) ∙ ap version_in (a.image ∙ sym told) ∙ is));
      }

  -- those of the older version were
  raised_one : IsRaised records changes v → IsLoaded name now old new v
  raised_one r =
      let kept : kept_in old_version v ≡ mid = kept_is old_version v mid records rises all r.older in
      record {
        good = ap (first_bad_record name) told ∙ good;
        image = sym (made ∙ ap (λ cs. changed cs mid) r.migrated ∙ ap (changed (migration v)) (sym kept) ∙ migrates v sound);
        fresh = λ none. absurd (r.some (none_kept none));
        same = λ some is. absurd (two_versions (sym is ∙ ap version_in (told ∙ sym r.older) ∙ old_says v));
        migrated = λ is. (r.guests, kept ∙ same);
      }

loaded_one : ImagesRise → MigrationGivesImage → (name : List ℕ) (now : ℕ) (records : List Record) (changes : List Change) (v : VolumeState) → RisesByKey records → IsMadeOf name now records changes v
    → (old mid new : Records) → mid ≡ old → IsAll mid records → new ≡ changed changes mid → IsLoaded name now old new v
loaded_one rising migrates name now records changes v rises m old mid new same all made = elim m.how [
  | inl f ↦ fresh_one rising migrates name now records changes v rises m.good m.sound old mid new same all made f
  | inr other ↦ elim other [
    | inl a ↦ again_one rising migrates name now records changes v rises m.good m.sound old mid new same all made a
    | inr r ↦ raised_one rising migrates name now records changes v rises m.good m.sound old mid new same all made r
  ]
]

not_bad : (name : List ℕ) (records : List Record) (f : LoadFault) → IsNotBad f → IsFaultIn name records f
not_bad name records (BadRecord key reason) is = absurd is
not_bad name records Failed is = tt
not_bad name records Memory is = tt

pub loaded : ImagesRise → MigrationGivesImage → (name : List ℕ) (now : ℕ) (records : List Record) (changes : List Change) (v : VolumeState) → RisesByKey records → IsMadeOf name now records changes v
    → (result : Result VolumeValue LoadFault) → IfOk result (λ whole. whole.state ≡ v) → IfErr result IsNotBad
    → (old mid new : Option Records) → Makes same_records old mid → IfSome mid (λ kept. IsAll kept records) → OnOk result (Makes (changed changes) mid new) → OnErr result (Makes same_records mid new) → Becomes (IsLoad name now result) old new
loaded rising migrates name now records changes v rises m result is fault old mid None first all ok err = tt
loaded rising migrates name now records changes v rises m (Ok whole) is fault old None (Some new) first all ok err = absurd (cc)
loaded rising migrates name now records changes v rises m (Err f) is fault old None (Some new) first all ok err = absurd (cc)
loaded rising migrates name now records changes v rises m result is fault None (Some mid) (Some new) first all ok err = absurd (cc)
loaded rising migrates name now records changes v rises m (Ok whole) is fault (Some old) (Some mid) (Some new) first all ok err =
    subst (IsLoaded name now old new) (sym is) (loaded_one rising migrates name now records changes v rises m old mid new (same_Some mid old first) all (same_Some new (changed changes mid) ok))
loaded rising migrates name now records changes v rises m (Err f) is fault (Some old) (Some mid) (Some new) first all ok err = (same_Some new mid err ∙ same_Some mid old first, not_bad name (records_in old) f fault)

-- ---- records of which no volume was made

pub faulted : (name : List ℕ) (now : ℕ) (records : List Record) (f : LoadFault) → IsFaultIn name records f
    → (old new : Option Records) → Makes same_records old new → IfSome new (λ kept. IsAll kept records) → Becomes (IsLoad name now (Err f)) old new
faulted name now records f is old None m all = tt
faulted name now records f is None (Some new) m all = absurd (cc)
faulted name now records f is (Some old) (Some new) m all =
    let same = same_Some new old m in
    (same, subst (λ (rs : List Record). IsFaultIn name rs f) (sym (ap records_in (sym same) ∙ records_are new records all)) is)

-- ---- a keeper that was not read whole

abbrev first_key : List ℕ × List ℕ → List ℕ
first_key e = e.0

abbrev record_by : List ℕ × List ℕ → Record
record_by e = record { key = e.0; value = e.1 }

one_over : (k : ℕ) (es : List (List ℕ × List ℕ)) (key : List ℕ) → option_map first_key (slice_get es k) ≡ Some key → (nat_lt k (length (map record_by es)) ≡ true) × (too_many (drop k (map record_by es)) ≡ Some (record { key = key; reason = Limit }))
one_over k [] key e = absurd (cc)
one_over zero (x ∷ es) key e = (grind arith, ap (λ (k : List ℕ). Some (record { key = k; reason = Limit })) (same_Some x.0 key e))
one_over (suc k) (x ∷ es) key e =
    let rest = one_over k es key e in
    let more : nat_lt k (length (map record_by es)) ≡ true = rest.0 in
    (grind (arith, more), rest.1)

over_many : (name : List ℕ) (es : List (List ℕ × List ℕ)) (key : List ℕ) → option_map first_key (slice_get es most_records) ≡ Some key → first_bad_record name (map record_by es) ≡ Some (record { key = key; reason = Limit })
over_many name [] key e = absurd (cc)
over_many name (x ∷ es) key e =
    let two = one_over most_records (x ∷ es) key e in
    ap (λ b. cond b (too_many (drop most_records (map record_by (x ∷ es)))) (first_bad_among (label_of name (map record_by (x ∷ es))) (with_head_and_root (map record_by (x ∷ es))))) two.0 ∙ two.1

refused_one : (name : List ℕ) (f : ReadAllFault) (g : LoadFault) → IsReadFault f g → (kept : Records) → IsFaultOf kept f → IsFaultIn name (records_in kept) g
refused_one name (read.TooMany key) g is kept e = subst (IsFaultIn name (records_in kept)) (sym is) (over_many name (entries kept) key e)
refused_one name (read.Inconsistent key) g is kept e = absurd e
refused_one name read.Failed g is kept e = subst (IsFaultIn name (records_in kept)) (sym is) tt
refused_one name read.Memory g is kept e = subst (IsFaultIn name (records_in kept)) (sym is) tt

pub refused : (name : List ℕ) (now : ℕ) (f : ReadAllFault) (g : LoadFault) → IsReadFault f g → (old new : Option Records) → Makes same_records old new → IfSome new (λ kept. IsFaultOf kept f) → Becomes (IsLoad name now (Err g)) old new
refused name now f g is old None m e = tt
refused name now f g is None (Some new) m e = absurd (cc)
refused name now f g is (Some old) (Some new) m e =
    let same = same_Some new old m in
    (same, subst (λ (kept : Records). IsFaultIn name (records_in kept) g) same (refused_one name f g is new e))
