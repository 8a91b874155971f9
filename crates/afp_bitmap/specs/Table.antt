-- The tables of fields, one row a bit, in the order of the bits.
use Rattle.std.specs.Prelude.{ℕ, List, [], ◌∷◌}
use Rattle.afp_bitmap.specs.declared.volume.VolumeValues.{VolumeValues}
use Rattle.afp_bitmap.specs.declared.file.FileValues.{FileValues}
use Rattle.afp_bitmap.specs.declared.directory.DirValues.{DirValues}
use Rattle.afp_bitmap.specs.declared.params.Values.{Values}
use Rattle.afp_bitmap.specs.declared.params.Values.TheVariants.{Volume, File, Dir}
use Rattle.afp_bitmap.specs.Field.{Field, Number, Date, Finder, LongName, Utf8Name}

-- a row: the bit, and the field that it asks for
abbrev pub FieldRow : Type 0
FieldRow = ℕ × Field

-- AFP Reference, "Volume Bitmap"
unfoldable pub volume_rows : VolumeValues → List FieldRow
volume_rows v =
    (0, Number 2 v.attributes)
    ∷ (1, Number 2 v.signature)
    ∷ (2, Date v.created)
    ∷ (3, Date v.modified)
    ∷ (4, Date v.backup)
    ∷ (5, Number 2 v.volume)
    ∷ (6, Number 4 v.free)
    ∷ (7, Number 4 v.total)
    ∷ (8, LongName v.name)
    ∷ (9, Number 8 v.ext_free)
    ∷ (10, Number 8 v.ext_total)
    ∷ (11, Number 4 v.block_size)
    ∷ []

-- AFP Reference, "File Bitmap"
unfoldable pub file_rows : FileValues → List FieldRow
file_rows v =
    (0, Number 2 v.attributes)
    ∷ (1, Number 4 v.parent)
    ∷ (2, Date v.created)
    ∷ (3, Date v.modified)
    ∷ (4, Date v.backup)
    ∷ (5, Finder v.finder)
    ∷ (6, LongName v.long_name)
    ∷ (8, Number 4 v.id)
    ∷ (9, Number 4 v.data_length)
    ∷ (10, Number 4 v.resource_length)
    ∷ (11, Number 8 v.ext_data_length)
    ∷ (13, Utf8Name v.utf8_name)
    ∷ (14, Number 8 v.ext_resource_length)
    ∷ []

-- AFP Reference, "Directory Bitmap"
unfoldable pub dir_rows : DirValues → List FieldRow
dir_rows v =
    (0, Number 2 v.attributes)
    ∷ (1, Number 4 v.parent)
    ∷ (2, Date v.created)
    ∷ (3, Date v.modified)
    ∷ (4, Date v.backup)
    ∷ (5, Finder v.finder)
    ∷ (6, LongName v.long_name)
    ∷ (8, Number 4 v.id)
    ∷ (9, Number 2 v.offspring)
    ∷ (10, Number 4 v.owner)
    ∷ (11, Number 4 v.group)
    ∷ (12, Number 4 v.rights)
    ∷ (13, Utf8Name v.utf8_name)
    ∷ []

-- the rows of values of any kind
unfoldable pub rows : Values → List FieldRow
rows (Volume v) = volume_rows v
rows (File v) = file_rows v
rows (Dir v) = dir_rows v

-- the number of a kind: 0 volume, 1 file, 2 directory (this profile)
abbrev pub kind_of : Values → ℕ
kind_of (Volume v) = 0
kind_of (File v) = 1
kind_of (Dir v) = 2
