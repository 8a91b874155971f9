-- What was judged and read is the volume whose records they are, or the first bad record.
use Rattle.std.proofs.Common.{◌≡◌, ◌∙◌, ℕ, ◌<◌, ◌≤◌, cond, List, [], ◌∷◌, map, length, drop, get_or, refl, sym, ap, arith, Option}
use Rattle.std.specs.Prelude.{Some, None}
use Rattle.std.proofs.Math.Seq.{drop-cons}
use Rattle.std.proofs.lemmas.Bool.{le-ltb, lt-ltb}
use Rattle.volume_spec.specs.VolumeState.{VolumeState}
use Rattle.record_keeper.specs.declared.record.Record.{Record}
use Rattle.volume_keeper_records.specs.declared.rows.Reason.TheVariants.{Limit}
use Rattle.volume_keeper_records.specs.declared.rows.TableRow.{TableRow}
use Rattle.volume_keeper_records.specs.Records.{head_key}
use Rattle.volume_keeper_records.specs.Shape.{row_in, Label}
use Rattle.volume_keeper_records.specs.Image.{rows_of, tables_in}
use Rattle.volume_keeper_records.specs.KeyOrder.{RisesByKey, with_key, with_head_and_root, root_key}
use Rattle.record_keeper.specs.Reading.{most_records}
use Rattle.volume_keeper_records.specs.FirstBad.{rows_in, first_bad_among, first_bad_record, too_many, label_of}
use Rattle.volume_keeper_records.specs.lemma.Judged.{said_rows}
use Rattle.volume_keeper_records.specs.Loaded.{IsVolumeOf}
use Rattle.volume_keeper_records.proofs.MissingKeys.{rises_with}
use Rattle.volume_keeper_records.proofs.Whole.{counted_made}
use Rattle.volume_keeper_records.proofs.ForkParts.{ForkLaw, volume_of}
use Rattle.volume_keeper_records.proofs.VolumeTables.{tables_again}
use Rattle.volume_keeper_records.proofs.ImageLaw.{whole_volume, either_image, known_version}
use Rattle.volume_keeper_records.proofs.Passing.{said_all}

-- where there are too many, the one behind them is refused
pub over_many : (name : List ℕ) (records : List Record) (r : Record) → 480000 < length records → r ≡ get_or records 480000 r → first_bad_record name records ≡ Some (record { key = r.key; reason = Limit })
over_many name [] r h e = absurd (omega arith)
over_many name (x ∷ xs) r h e =
    ap (λ b. cond b (too_many (drop most_records (x ∷ xs))) (first_bad_among (label_of name (x ∷ xs)) (with_head_and_root (x ∷ xs)))) (lt-ltb most_records (length (x ∷ xs)) h)
    ∙ ap too_many (drop-cons (x ∷ xs) 480000 r h) ∙ ap (λ (q : Record). Some (record { key = q.key; reason = Limit })) (sym e)

pub judged_counted : (name : List ℕ) (records : List Record) → (records ≡ [] → ⊥) → length records ≤ 480000 → first_bad_record name records ≡ first_bad_among (label_of name records) (with_head_and_root records)
judged_counted name [] n h = absurd (n refl)
judged_counted name (x ∷ xs) n h = ap (λ b. cond b (too_many (drop most_records (x ∷ xs))) (first_bad_among (label_of name (x ∷ xs)) (with_head_and_root (x ∷ xs)))) (le-ltb most_records (length (x ∷ xs)) h)

pub counted_rises : (records : List Record) → RisesByKey records → RisesByKey (with_head_and_root records)
counted_rises records s = rises_with head_key (with_key root_key records) (rises_with root_key records s)

pub loaded_good : ForkLaw → (name : List ℕ) (records : List Record) (rows : List TableRow) → RisesByKey records → (records ≡ [] → ⊥) → length records ≤ 480000 → first_bad_among (label_of name records) (with_head_and_root records) ≡ None
    → rows ≡ rows_in (label_of name records) (with_head_and_root records) → (first_bad_record name records ≡ None) × (v : VolumeState) × IsVolumeOf name records rows v
loaded_good law name records rows s n few good are =
    let made = counted_made (label_of name records) records s good in
    let again = tables_again law (label_of name records) (tables_in (rows_in (label_of name records) (with_head_and_root records))) made.0 in (
      judged_counted name records n few ∙ good,
      volume_of name (tables_in (rows_in (label_of name records) (with_head_and_root records))),
      record {
        has_records = record {
          volume = whole_volume law (label_of name records) (tables_in (rows_in (label_of name records) (with_head_and_root records))) made.0;
          image = either_image law (label_of name records) (tables_in (rows_in (label_of name records) (with_head_and_root records))) records (known_version law records) made.0 made.1;
        };
        has_rows = are ∙ sym made.2 ∙ ap rows_of (sym again);
      },
    )

pub said_counted : (label : Label) (records : List Record) (list : List TableRow) (rows : List (Option TableRow)) → list ≡ said_rows rows → rows ≡ map (row_in label) (with_head_and_root records) → list ≡ rows_in label (with_head_and_root records)
said_counted label records list rows e f = e ∙ ap said_rows f ∙ said_all label (with_head_and_root records)
