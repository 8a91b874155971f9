-- How the code reads a block of any kind, for its proofs; no public contract cites it.
use Rattle.std.specs.Prelude.{ℕ, zero, suc, List, Result, Ok}
use Rattle.afp_bitmap.specs.declared.params.Values.{Values}
use Rattle.afp_bitmap.specs.declared.params.Values.TheVariants.{Volume, File, Dir}
use Rattle.afp_bitmap.specs.declared.volume.VolumeValues.{VolumeValues}
use Rattle.afp_bitmap.specs.declared.file.FileValues.{FileValues}
use Rattle.afp_bitmap.specs.declared.directory.DirValues.{DirValues}
use Rattle.afp_bitmap.specs.declared.volume.TheConstants as volume
use Rattle.afp_bitmap.specs.declared.file.TheConstants as file
use Rattle.afp_bitmap.specs.declared.directory.TheConstants as directory
use Rattle.afp_bitmap.specs.lemma.Reading.{◌>>=◌, judged, volume_from, file_from, dir_from}

-- the values of a block, by kind
unfoldable pub volume_at : ℕ → List ℕ → Result VolumeValues ℕ
volume_at bits bytes = judged bits volume.TABLE bytes >>= λ names. Ok (volume_from bits bytes names.0)

unfoldable pub file_at : ℕ → List ℕ → Result FileValues ℕ
file_at bits bytes = judged bits file.TABLE bytes >>= λ names. Ok (file_from bits bytes names.0 names.1)

unfoldable pub dir_at : ℕ → List ℕ → Result DirValues ℕ
dir_at bits bytes = judged bits directory.TABLE bytes >>= λ names. Ok (dir_from bits bytes names.0 names.1)

unfoldable pub reading : ℕ → ℕ → List ℕ → Result Values ℕ
reading zero bits bytes = volume_at bits bytes >>= λ v. Ok (Volume v)
reading (suc zero) bits bytes = file_at bits bytes >>= λ v. Ok (File v)
reading (suc (suc kind)) bits bytes = dir_at bits bytes >>= λ v. Ok (Dir v)
