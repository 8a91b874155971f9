-- The status block, which a server gives before any session (AFP Reference, FPGetSrvrInfo).
use Rattle.std.specs.Prelude.{◌≡◌, ◌<◌, ℕ, ◌+◌, ◌*◌, ◌%◌, List, [], ◌∷◌, ◌++◌, length, take, drop, slice_index_or, replicate, sum_by, flat_map}
use Rattle.std.specs.List.{concat}
use Rattle.byteorder.specs.Endian.{big_bytes}
use Rattle.afp_serial.specs.Household.{Household}
use Rattle.afp_serial.specs.StatusWords.{machine_type, versions, uams, server_flags}

-- an offset of 0: there is no icon
abbrev pub no_icon : ℕ
no_icon = 0

-- a count of one byte and the bytes (a Pascal string)
abbrev pub pascal_string : List ℕ → List ℕ
pascal_string text = length text ∷ text

-- a count of one byte and the counted words
abbrev pub counted_words : List (List ℕ) → List ℕ
counted_words words = length words ∷ flat_map pascal_string words

-- a count of two bytes and the bytes
abbrev pub long_counted : List ℕ → List ℕ
long_counted text = big_bytes 2 (length text) ++ text

-- the parts that the offsets name, for a server's name and signature, in the order in which they stand:
-- the machine type, the versions, the UAMs, the signature, no network addresses, no directory names, the
-- UTF-8 name
abbrev pub status_parts : List ℕ → List ℕ → List (List ℕ)
status_parts name signature =
    pascal_string machine_type ∷ counted_words versions ∷ counted_words uams ∷ signature ∷ counted_words []
    ∷ counted_words [] ∷ long_counted name ∷ []

-- the sizes of an offset and of the flags
abbrev pub offset_size : ℕ
offset_size = 2

abbrev pub flags_size : ℕ
flags_size = 2

-- the size of what stands before the pad: four offsets, the flags, the counted name
abbrev pub name_end : List ℕ → ℕ
name_end name = 4 * offset_size + flags_size + length (pascal_string name)

-- a zero byte, where the next byte would stand at an odd place
abbrev pub status_pad : List ℕ → List ℕ
status_pad name = replicate (name_end name % 2) 0

-- the size of the head: that, the pad, and four offsets more
abbrev pub status_head_size : List ℕ → ℕ
status_head_size name = name_end name + length (status_pad name) + 4 * offset_size

-- the place of the part with this index: behind a head of this size and the parts before it
abbrev pub place_of : ℕ → List (List ℕ) → ℕ → ℕ
place_of size parts index = size + sum_by length (take index parts)

-- the places of the parts
pub record StatusOffsets : Type 0 where
  pub machine_type : ℕ
  pub versions : ℕ
  pub uams : ℕ
  pub signature : ℕ
  pub addresses : ℕ
  pub directories : ℕ
  pub utf8_name : ℕ

abbrev pub offsets_of : ℕ → List (List ℕ) → StatusOffsets
offsets_of size parts =
    record {
      machine_type = place_of size parts 0;
      versions = place_of size parts 1;
      uams = place_of size parts 2;
      signature = place_of size parts 3;
      addresses = place_of size parts 4;
      directories = place_of size parts 5;
      utf8_name = place_of size parts 6;
    }

-- the head
abbrev pub status_head : List ℕ → StatusOffsets → List ℕ
status_head name offsets =
    concat
    (big_bytes 2 offsets.machine_type
    ∷ big_bytes 2 offsets.versions
    ∷ big_bytes 2 offsets.uams
    ∷ big_bytes 2 no_icon
    ∷ big_bytes 2 server_flags
    ∷ pascal_string name
    ∷ status_pad name
    ∷ big_bytes 2 offsets.signature
    ∷ big_bytes 2 offsets.addresses
    ∷ big_bytes 2 offsets.directories
    ∷ big_bytes 2 offsets.utf8_name
    ∷ [])

-- the head, and the parts behind it with no pads, for a server's name and signature
abbrev pub status_of : List ℕ → List ℕ → List ℕ
status_of name signature =
    let parts : List (List ℕ) = status_parts name signature
    in status_head name (offsets_of (status_head_size name) parts) ++ concat parts

unfoldable pub status_block : Household → List ℕ
status_block house = status_of house.server house.signature

-- each part stands in the block at its offset
abbrev pub OffsetsFindParts : Household → List ℕ → Type 0
OffsetsFindParts house block =
    let parts : List (List ℕ) = status_parts house.server house.signature
    in (index : ℕ) (none : List ℕ) → index < length parts
    → take (length (slice_index_or parts index none)) (drop (place_of (status_head_size house.server) parts index) block)
    ≡ slice_index_or parts index none
