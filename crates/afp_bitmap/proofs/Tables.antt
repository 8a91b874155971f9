-- The three tables: their slots, their size, the order of their names.
use Rattle.std.proofs.Common.{◌≡◌, ℕ, length, ◌<◌, List, [], ◌∷◌, map, refl, arith, inl, inr}
use Rattle.std.specs.List.{AllByRecursion}
use Rattle.std.proofs.lemmas.Bool.{cases_Bool, MatchBool-at_true}
use Rattle.afp_bitmap.specs.declared.volume.TheConstants as volume
use Rattle.afp_bitmap.specs.declared.file.TheConstants as file
use Rattle.afp_bitmap.specs.declared.directory.TheConstants as directory
use Rattle.afp_bitmap.specs.declared.volume.VolumeValues.{VolumeValues}
use Rattle.afp_bitmap.specs.declared.file.FileValues.{FileValues}
use Rattle.afp_bitmap.specs.declared.directory.DirValues.{DirValues}
use Rattle.afp_bitmap.specs.declared.params.Values.TheVariants.{Volume, File, Dir}
use Rattle.afp_bitmap.specs.declared.table.Slot.{Slot}
use Rattle.afp_bitmap.specs.Bits.{is_asked}
use Rattle.afp_bitmap.specs.Field.{blank, IsCountable}
use Rattle.afp_bitmap.specs.Params.{asked_of, size_of_fixed_part, RowFits, Fits}
use Rattle.afp_bitmap.specs.lemma.Reading.{asked_size}
use Rattle.afp_bitmap.specs.Table.{FieldRow, volume_rows, file_rows, dir_rows, rows}
use Rattle.afp_bitmap.specs.lemma.Writing.{IsSized}
use Rattle.afp_bitmap.proofs.Asked.{slot_of, whole_size, asked_size_le, asked_size_is, asked_none, asked_yes, asked_no}
use Rattle.afp_bitmap.proofs.Formed.{Formed, fields}
use Rattle.afp_bitmap.proofs.Patches.{sized_asked}

-- the names of values that fit can be counted
pub fits_countable : (bits : ℕ) (rs : List FieldRow) → AllByRecursion (RowFits bits) rs → AllByRecursion IsCountable (asked_of bits rs)
fits_countable bits [] h = rw (asked_none bits) tt
fits_countable bits (r ∷ rs) h =
    elim (cases_Bool (is_asked bits r.0)) [
      | inl on ↦ rw (asked_yes bits r rs on) (MatchBool-at_true (IsCountable r.1) (r.1 ≡ blank r.1) on h.0, fits_countable bits rs h.1)
      | inr off ↦ rw (asked_no bits r rs off) (fits_countable bits rs h.1)
    ]

below : (bits : ℕ) (ss : List Slot) → whole_size ss < 65000 → asked_size bits ss < 65000
below bits ss h = let le = asked_size_le bits ss in omega arith

-- ---- volume

pub volume_table : (v : VolumeValues) → map slot_of (volume_rows v) ≡ volume.TABLE
unfolding volume_rows
volume_table v = refl

pub volume_small : (bits : ℕ) → asked_size bits volume.TABLE < 65000
volume_small bits = below bits volume.TABLE (omega arith)

pub volume_size : (bits : ℕ) (v : VolumeValues) → asked_size bits volume.TABLE ≡ size_of_fixed_part (asked_of bits (volume_rows v))
volume_size bits v = rw (← volume_table v) (asked_size_is bits (volume_rows v))

pub volume_formed : (v : VolumeValues) → Formed (fields (volume_rows v))
unfolding volume_rows
volume_formed v = tt

pub volume_sized : (bits : ℕ) (v : VolumeValues) → AllByRecursion IsSized (asked_of bits (volume_rows v))
unfolding volume_rows
volume_sized bits v = sized_asked bits (volume_rows v) (tt, (tt, (tt, (tt, (tt, (tt, (tt, (tt, (tt, (tt, (tt, (tt, tt))))))))))))

pub volume_fixed : (bits : ℕ) (v : VolumeValues) → size_of_fixed_part (asked_of bits (volume_rows v)) < 65000
volume_fixed bits v = let small = volume_small bits in let size = volume_size bits v in omega arith

pub volume_rows_is : (v : VolumeValues) → rows (Volume v) ≡ volume_rows v
unfolding rows
volume_rows_is v = refl

pub volume_countable : (bits : ℕ) (v : VolumeValues) → Fits bits (Volume v) → AllByRecursion IsCountable (asked_of bits (volume_rows v))
unfolding Fits rows
volume_countable bits v h = fits_countable bits (volume_rows v) h

-- ---- file

pub file_table : (v : FileValues) → map slot_of (file_rows v) ≡ file.TABLE
unfolding file_rows
file_table v = refl

pub file_small : (bits : ℕ) → asked_size bits file.TABLE < 65000
file_small bits = below bits file.TABLE (omega arith)

pub file_size : (bits : ℕ) (v : FileValues) → asked_size bits file.TABLE ≡ size_of_fixed_part (asked_of bits (file_rows v))
file_size bits v = rw (← file_table v) (asked_size_is bits (file_rows v))

pub file_formed : (v : FileValues) → Formed (fields (file_rows v))
unfolding file_rows
file_formed v = tt

pub file_sized : (bits : ℕ) (v : FileValues) → length v.finder ≡ 32 → AllByRecursion IsSized (asked_of bits (file_rows v))
unfolding file_rows
file_sized bits v h = sized_asked bits (file_rows v) (tt, (tt, (tt, (tt, (tt, (h, (tt, (tt, (tt, (tt, (tt, (tt, (tt, tt)))))))))))))

pub file_fixed : (bits : ℕ) (v : FileValues) → size_of_fixed_part (asked_of bits (file_rows v)) < 65000
file_fixed bits v = let small = file_small bits in let size = file_size bits v in omega arith

pub file_rows_is : (v : FileValues) → rows (File v) ≡ file_rows v
unfolding rows
file_rows_is v = refl

pub file_countable : (bits : ℕ) (v : FileValues) → Fits bits (File v) → AllByRecursion IsCountable (asked_of bits (file_rows v))
unfolding Fits rows
file_countable bits v h = fits_countable bits (file_rows v) h

-- ---- directory

pub dir_table : (v : DirValues) → map slot_of (dir_rows v) ≡ directory.TABLE
unfolding dir_rows
dir_table v = refl

pub dir_small : (bits : ℕ) → asked_size bits directory.TABLE < 65000
dir_small bits = below bits directory.TABLE (omega arith)

pub dir_size : (bits : ℕ) (v : DirValues) → asked_size bits directory.TABLE ≡ size_of_fixed_part (asked_of bits (dir_rows v))
dir_size bits v = rw (← dir_table v) (asked_size_is bits (dir_rows v))

pub dir_formed : (v : DirValues) → Formed (fields (dir_rows v))
unfolding dir_rows
dir_formed v = tt

pub dir_sized : (bits : ℕ) (v : DirValues) → length v.finder ≡ 32 → AllByRecursion IsSized (asked_of bits (dir_rows v))
unfolding dir_rows
dir_sized bits v h = sized_asked bits (dir_rows v) (tt, (tt, (tt, (tt, (tt, (h, (tt, (tt, (tt, (tt, (tt, (tt, (tt, tt)))))))))))))

pub dir_fixed : (bits : ℕ) (v : DirValues) → size_of_fixed_part (asked_of bits (dir_rows v)) < 65000
dir_fixed bits v = let small = dir_small bits in let size = dir_size bits v in omega arith

pub dir_rows_is : (v : DirValues) → rows (Dir v) ≡ dir_rows v
unfolding rows
dir_rows_is v = refl

pub dir_countable : (bits : ℕ) (v : DirValues) → Fits bits (Dir v) → AllByRecursion IsCountable (asked_of bits (dir_rows v))
unfolding Fits rows
dir_countable bits v h = fits_countable bits (dir_rows v) h
