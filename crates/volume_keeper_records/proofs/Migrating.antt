-- The records of the older version become those of the one that is written by one list of changes.
use Rattle.std.proofs.Common.{◌≡◌, ◌∙◌, ℕ, Bool, true, false, cond, List, [], ◌∷◌, ◌++◌, ◌||◌, map, refl, sym, ap, inl, inr}
use Rattle.std.specs.Prelude.{Option, Some, None}
use Rattle.std.specs.Cmp.Lexicographic.{nat_list_cmp_total}
use Rattle.std.specs.FinMap.{slice_cmp-IsAntisymmetric, nat_cmp-IsAntisymmetric}
use Rattle.std.specs.FinMap.{get, same_map}
use Rattle.std.proofs.lemmas.Bool.{cases_Bool, cond-true, cond-false}
use Rattle.volume_spec.specs.SoundVolume.{IsSoundVolume}
use Rattle.volume_spec.specs.VolumeState.{VolumeState, Row as VolumeRow}
use Rattle.record_keeper.specs.Records.{changed}
use Rattle.volume_keeper_records.specs.declared.rows.TableRow.{TableRow}
use Rattle.volume_keeper_records.specs.declared.rows.TableRow.TheVariants as row
use Rattle.volume_keeper_records.specs.declared.rows.Node.{Node}
use Rattle.volume_keeper_records.specs.Records.{old_version, version, record_of, head_record, node_record}
use Rattle.volume_keeper_records.specs.Image.{kept_image, kept_old, node_of, rows_of, tables_of}
use Rattle.volume_keeper_records.specs.Migration.{migration, put_of}
use Rattle.volume_keeper_records.proofs.ForkParts.{ForkLaw}
use Rattle.volume_keeper_records.proofs.ImageRises.{image_rises}
use Rattle.volume_keeper_records.proofs.LookUps.{after, after_puts, any_at, are_one, each_found, first_found, found, found-append, got, got_changed, key_of_row, or_then}

-- the head and the nodes, and the rows behind them
abbrev changing : ℕ → VolumeState → List TableRow
changing version v = row.Head (tables_of version v).head ∷ map (λ node. row.Node node) (tables_of version v).nodes

abbrev staying : VolumeState → List TableRow
staying v =
    map (λ block. row.Block block) (tables_of version v).blocks
    ++ (map (λ comment. row.Comment comment) v.comments
    ++ (map (λ icon. row.Icon icon) v.icons
    ++ map (λ appl. row.Appl appl) v.appls))

unfound-one : (b c : Bool) (value : List ℕ) (o : Option (List ℕ)) → (b || c) ≡ false → (c ≡ false → o ≡ None) → cond b (Some value) o ≡ None
unfound-one true c value o e gives = absurd (cc)
unfound-one false c value o e gives = gives e

-- nothing is found where no row has the key
unfound : (xs : List TableRow) (q : List ℕ) → any_at xs q ≡ false → found xs q ≡ None
unfound [] q e = refl
unfound (x ∷ xs) q e = unfound-one (are_one q (key_of_row x)) (any_at xs q) (record_of x).value (found xs q) e (unfound xs q)

-- keys are the same in both versions
node-keys : (rs : List VolumeRow) (q : List ℕ) → any_at (map (λ node. row.Node node) (map (node_of old_version) rs)) q ≡ any_at (map (λ node. row.Node node) (map (node_of version) rs)) q
unfolding node_record
node-keys [] q = refl
node-keys (r ∷ rs) q = λ i. are_one q (key_of_row (row.Node (node_of version r))) || node-keys rs q i

same-keys : (v : VolumeState) (q : List ℕ) → any_at (changing old_version v) q ≡ any_at (changing version v) q
unfolding head_record
same-keys v q = λ i. are_one q (key_of_row (row.Head (tables_of version v).head)) || node-keys v.rows q i

puts-are : (ns : List Node) → map (λ node. put_of (row.Node node)) ns ≡ map put_of (map (λ node. row.Node node) ns)
puts-are [] = refl
puts-are (n ∷ ns) = ap (λ l. put_of (row.Node n) ∷ l) (puts-are ns)

pub migration-gives : ForkLaw → (v : VolumeState) → IsSoundVolume v → changed (migration v) (kept_old v) ≡ kept_image v
migration-gives law v sound = same_map nat_list_cmp_total (slice_cmp-IsAntisymmetric nat_cmp-IsAntisymmetric) (changed (migration v) (kept_old v)) (kept_image v) (λ q.
    ap (λ cs. get (changed cs (kept_old v)) q) (ap (λ l. put_of (row.Head (tables_of version v).head) ∷ l) (puts-are (tables_of version v).nodes))
    ∙ got_changed (map put_of (changing version v)) (kept_old v) q
    ∙ ap (after (map put_of (changing version v)) q) (got (rows_of (tables_of old_version v)) q (image_rises old_version law v sound))
    ∙ after_puts (rows_of (tables_of version v)) (changing version v) q (found (rows_of (tables_of old_version v)) q) (first_found (rows_of (tables_of version v)) (changing version v) (staying v) (each_found (rows_of (tables_of version v)) (image_rises version law v sound)))
    ∙ elim (cases_Bool (any_at (changing version v) q)) [
      | inl there ↦ cond-true (any_at (changing version v) q) (found (rows_of (tables_of version v)) q) (found (rows_of (tables_of old_version v)) q) there
      | inr other ↦ cond-false (any_at (changing version v) q) (found (rows_of (tables_of version v)) q) (found (rows_of (tables_of old_version v)) q) other
          ∙ found-append (changing old_version v) (staying v) q
          ∙ ap (λ o. or_then o (found (staying v) q)) (unfound (changing old_version v) q (same-keys v q ∙ other) ∙ sym (unfound (changing version v) q other))
          ∙ sym (found-append (changing version v) (staying v) q)
    ]
    ∙ sym (got (rows_of (tables_of version v)) q (image_rises version law v sound)))
