-- Values that the bits ask for have a block.
use Rattle.std.proofs.Common.{◌≡◌, sym, refl, subst, ℕ, ◌<◌, min, Bool, true, false, cond, List, [], length, arith}
use Rattle.std.specs.Prelude.{MatchBool}
use Rattle.afp_bitmap.specs.Bits.{is_asked}
use Rattle.afp_bitmap.specs.Field.{LongName, Utf8Name}
use Rattle.afp_bitmap.specs.Params.{Fits}
use Rattle.afp_bitmap.specs.Table.{rows as table_rows, volume_rows, file_rows, dir_rows}
use Rattle.afp_bitmap.specs.declared.directory.DirValues.{DirValues}
use Rattle.afp_bitmap.specs.declared.file.FileValues.{FileValues}
use Rattle.afp_bitmap.specs.declared.params.Values.TheVariants.{Volume, File, Dir}
use Rattle.afp_bitmap.specs.declared.volume.VolumeValues.{VolumeValues}
use Rattle.afp_names.specs.LongName.{long_name_of}
use Rattle.volume_spec.specs.Shared.{Opened}
use Rattle.afp_base.specs.Limits.{block_size, most_fork_bytes}
use Rattle.volume_spec.specs.GetVolParms.{volume_attributes, fixed_directory_ids, free_bytes, volume_values}
use Rattle.volume_spec.specs.Listing.{children}
use Rattle.volume_spec.specs.NodeValues.{told_attributes, file_values, most_offspring, dir_values, told_rights}
use Rattle.volume_spec.specs.Parms.{asked_or}
use Rattle.volume_spec.specs.VolumeState.{Row, VolumeState}
use Rattle.volume_spec.proofs.ToldValues.{number-fits, date-fits, finder-fits}

-- a value that stands where its bit is asked, and is blank where not

long-fits : (b : Bool) (name : List ℕ) → length (cond b name []) < 256 → MatchBool b (length (cond b name []) < 256) (LongName (cond b name []) ≡ LongName [])
long-fits true name short = short
long-fits false name short = refl

utf8-fits : (b : Bool) (name : List ℕ) → length (cond b name []) < 256 → MatchBool b (length (cond b name []) < 65536) (Utf8Name (cond b name []) ≡ Utf8Name [])
utf8-fits true name short = omega arith
utf8-fits false name short = refl

-- the values of a volume

told-volume : (v : VolumeState) (id bits : ℕ) → length (asked_or bits 8 [] v.name) < 256 → Fits bits (Volume (volume_values v id bits))
unfolding volume_values table_rows volume_rows Fits
told-volume v id bits short = (number-fits (is_asked bits 0) 2 volume_attributes, (number-fits (is_asked bits 1) 2 fixed_directory_ids, (date-fits (is_asked bits 2) v.created, (date-fits (is_asked bits 3) v.modified, (date-fits (is_asked bits 4) v.backup, (number-fits (is_asked bits 5) 2 id, (number-fits (is_asked bits 6) 4 (free_bytes v), (number-fits (is_asked bits 7) 4 most_fork_bytes, (long-fits (is_asked bits 8) v.name short, (number-fits (is_asked bits 9) 8 (free_bytes v), (number-fits (is_asked bits 10) 8 most_fork_bytes, (number-fits (is_asked bits 11) 4 block_size, tt))))))))))))

pub volume-fits : (v : VolumeState) (id bits : ℕ) (values : VolumeValues) → values ≡ volume_values v id bits → length values.name < 256 → Fits bits (Volume values)
unfolding volume_values
volume-fits v id bits values is short = subst (λ w. Fits bits (Volume w)) (sym is) (told-volume v id bits (subst (λ (w : VolumeValues). length w.name < 256) is short))

-- the values of a file

told-file : (opens : List Opened) (bits : ℕ) (row : Row) → length (asked_or bits 6 [] (long_name_of row.name row.id)) < 256 → length (asked_or bits 13 [] row.name) < 256 → Fits bits (File (file_values opens bits row))
unfolding file_values table_rows file_rows Fits
told-file opens bits row long short = (number-fits (is_asked bits 0) 2 (told_attributes opens row), (number-fits (is_asked bits 1) 4 row.parent, (date-fits (is_asked bits 2) row.created, (date-fits (is_asked bits 3) row.modified, (date-fits (is_asked bits 4) row.backup, (finder-fits (is_asked bits 5) row.finder, (long-fits (is_asked bits 6) (long_name_of row.name row.id) long, (number-fits (is_asked bits 8) 4 row.id, (number-fits (is_asked bits 9) 4 (length row.data_fork), (number-fits (is_asked bits 10) 4 (length row.resource_fork), (number-fits (is_asked bits 11) 8 (length row.data_fork), (utf8-fits (is_asked bits 13) row.name short, (number-fits (is_asked bits 14) 8 (length row.resource_fork), tt)))))))))))))

pub file-fits : (opens : List Opened) (bits : ℕ) (row : Row) (values : FileValues) → values ≡ file_values opens bits row → length values.long_name < 256 → length values.utf8_name < 256 → Fits bits (File values)
unfolding file_values
file-fits opens bits row values is long short =
    subst (λ w. Fits bits (File w)) (sym is) (told-file opens bits row (subst (λ (w : FileValues). length w.long_name < 256) is long) (subst (λ (w : FileValues). length w.utf8_name < 256) is short))

-- the values of a directory

told-dir : (rows : List Row) (user bits : ℕ) (row : Row) → length (asked_or bits 6 [] (long_name_of row.name row.id)) < 256 → length (asked_or bits 13 [] row.name) < 256 → Fits bits (Dir (dir_values rows user bits row))
unfolding dir_values table_rows dir_rows Fits
told-dir rows user bits row long short = (number-fits (is_asked bits 0) 2 row.attributes, (number-fits (is_asked bits 1) 4 row.parent, (date-fits (is_asked bits 2) row.created, (date-fits (is_asked bits 3) row.modified, (date-fits (is_asked bits 4) row.backup, (finder-fits (is_asked bits 5) row.finder, (long-fits (is_asked bits 6) (long_name_of row.name row.id) long, (number-fits (is_asked bits 8) 4 row.id, (number-fits (is_asked bits 9) 2 (min most_offspring (length (children rows row.id))), (number-fits (is_asked bits 10) 4 row.privileges.owner, (number-fits (is_asked bits 11) 4 row.privileges.group, (number-fits (is_asked bits 12) 4 (told_rights row.privileges user), (utf8-fits (is_asked bits 13) row.name short, tt)))))))))))))

pub dir-fits : (rows : List Row) (user bits : ℕ) (row : Row) (values : DirValues) → values ≡ dir_values rows user bits row → length values.long_name < 256 → length values.utf8_name < 256 → Fits bits (Dir values)
unfolding dir_values
dir-fits rows user bits row values is long short =
    subst (λ w. Fits bits (Dir w)) (sym is) (told-dir rows user bits row (subst (λ (w : DirValues). length w.long_name < 256) is long) (subst (λ (w : DirValues). length w.utf8_name < 256) is short))
