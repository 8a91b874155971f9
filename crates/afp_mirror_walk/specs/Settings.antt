-- What a list tells of a node, and what is to be set of the node that is made for it (this profile; the bits of attributes are those of the AFP Reference).
use Rattle.std.specs.Prelude.{ℕ, ℤ, Bool, true, false, if◌then◌else◌, List, ◌++◌, Option, Some, None, is_none, bit_and, bit_or}
use Rattle.std.specs.Int.{w32, cast_unsigned}
use Rattle.byteorder.specs.Endian.{big_bytes}
use Rattle.afp_bitmap.specs.declared.params.Values.{Values}
use Rattle.afp_bitmap.specs.declared.params.Values.TheVariants.{Volume, File, Dir}
use Rattle.afp_names.specs.Name.{name_fault}
use Rattle.afp_mirror_walk.specs.declared.walk.standing.Found.{Found}
use Rattle.afp_mirror_walk.specs.declared.walk.standing.Settings.{Settings}

-- the attributes that can be set, of a file and of a directory; and the bit by which the others of a word are set
abbrev pub file_attributes : ℕ
file_attributes = 0x01e5

abbrev pub dir_attributes : ℕ
dir_attributes = 0x01c5

abbrev pub set_or_clear : ℕ
set_or_clear = 0x8000

-- the word that sets the attributes of a mask, as they are told
abbrev pub attributes_word : ℕ → ℕ → ℕ
attributes_word mask attributes = bit_or (bit_and attributes mask) set_or_clear

abbrev pub date_bytes : ℤ → List ℕ
date_bytes date = big_bytes 4 (cast_unsigned w32 date)

-- the bytes of what is set: attributes, three dates and Finder information
unfoldable pub settings_bytes : Settings → List ℕ
settings_bytes s = big_bytes 2 s.word ++ date_bytes s.created ++ date_bytes s.modified ++ date_bytes s.backup ++ s.finder

abbrev pub settings_of : ℕ → ℤ → ℤ → ℤ → List ℕ → Settings
settings_of word created modified backup finder = record { word = word; created = created; modified = modified; backup = backup; finder = finder }

abbrev pub found : ℕ → Bool → List ℕ → Settings → Found
found id dir name settings = record { id = record { 0 = id }; dir = dir; name = name; settings = settings }

-- a node, where its name is one
abbrev pub if_named : List ℕ → Found → Option Found
if_named name node = if is_none (name_fault name) then Some node else None

-- the node that an entry tells
unfoldable pub found_in : Values → Option Found
found_in (File f) = if_named f.utf8_name (found f.id false f.utf8_name (settings_of (attributes_word file_attributes f.attributes) f.created f.modified f.backup f.finder))
found_in (Dir d) = if_named d.utf8_name (found d.id true d.utf8_name (settings_of (attributes_word dir_attributes d.attributes) d.created d.modified d.backup d.finder))
found_in (Volume v) = None
