-- Entries of lists (AFP Reference, FPEnumerate, FPEnumerateExt2).
use Rattle.std.specs.Prelude.{◌≡◌, ◌≢◌, ℕ, ◌+◌, ◌^◌, ◌≤◌, ◌<◌, Bool, true, false, List, ◌∷◌, ◌++◌, length, take, drop, replicate, slice_index}
use Rattle.byteorder.specs.Endian.{big_bytes, big_number}
use Rattle.afp_bitmap.specs.declared.params.Values.{Values}
use Rattle.afp_bitmap.specs.declared.params.Values.TheVariants.{Dir, File, Volume}
use Rattle.afp_bitmap.specs.Params.{params, IsAnswer, IsBadAt}
use Rattle.afp_replies.specs.declared.list.ListEntry.{ListEntry}
use Rattle.afp_replies.specs.Numbers.{file_kind, dir_kind}
use Rattle.afp_replies.specs.Bytes.{flag_of, width}

-- whether values are a directory's
abbrev pub is_dir : Values → Bool
is_dir (Dir v) = true
is_dir (File v) = false
is_dir (Volume v) = false

-- the bits that are asked of a directory or of a file
abbrev pub bits_for : Bool → ℕ → ℕ → ℕ
bits_for true file_bits dir_bits = dir_bits
bits_for false file_bits dir_bits = file_bits

-- the kind of parameters of a directory or of a file
abbrev pub kind_for : Bool → ℕ
kind_for true = dir_kind
kind_for false = file_kind

-- values of a file or of a directory that these bits ask for (this profile)
abbrev pub IsNode : ℕ → ℕ → Values → Type 0
IsNode file_bits dir_bits v = IsAnswer (kind_for (is_dir v)) (bits_for (is_dir v) file_bits dir_bits) v

-- the parameters of a file or a directory
abbrev pub node_params : ℕ → ℕ → Values → List ℕ
node_params file_bits dir_bits v = params (bits_for (is_dir v) file_bits dir_bits) v

-- how many pad bytes stand behind the flag: one in a wide list
abbrev pub pad_count : Bool → ℕ
pad_count false = 0
pad_count true = 1

-- how many bytes stand before the parameters: length, flag and pad
abbrev pub head_size : Bool → ℕ
head_size wide = width wide + (1 + pad_count wide)

-- an entry with these pads: its length, which counts the whole entry, its flag, the pads, its parameters
abbrev pub entry_with : List ℕ → Bool → ℕ → ℕ → Values → List ℕ
entry_with pads wide file_bits dir_bits v =
    big_bytes (width wide) (head_size wide + length (node_params file_bits dir_bits v))
    ++ (flag_of (is_dir v) ∷ (pads ++ node_params file_bits dir_bits v))

-- an entry as it is written
abbrev pub entry_bytes : Bool → ℕ → ℕ → ListEntry → List ℕ
entry_bytes wide file_bits dir_bits e = entry_with (replicate (pad_count wide) 0) wide file_bits dir_bits e.values

-- an entry can be written: its values are those that were asked, and its length fits
pub record FitsEntry (wide : Bool) (file_bits dir_bits : ℕ) (e : ListEntry) : Type 0 where
  pub answer : IsNode file_bits dir_bits e.values
  pub small : head_size wide + length (node_params file_bits dir_bits e.values) < 256 ^ width wide

-- These bytes are the entry. A pad byte has any value.
pub record IsEntry (wide : Bool) (file_bits dir_bits : ℕ) (e : ListEntry) (bytes : List ℕ) : Type 0 where
  pub fits : FitsEntry wide file_bits dir_bits e
  pub pads : List ℕ
  pub pads_are : length pads ≡ pad_count wide
  pub bytes_are : bytes ≡ entry_with pads wide file_bits dir_bits e.values

-- the length that the entry at the front of the bytes states
abbrev pub stated : Bool → List ℕ → ℕ
stated wide bytes = big_number (width wide) bytes

-- the bytes from the first have a length that an entry can have, and all bytes that it counts
pub record HasEntryLength (wide : Bool) (bytes : List ℕ) : Type 0 where
  pub there : width wide ≤ length bytes
  pub enough : head_size wide ≤ stated wide bytes
  pub inside : stated wide bytes ≤ length bytes

-- the bytes behind the flag and its pad, up to the entry's end
abbrev pub params_part : Bool → List ℕ → List ℕ
params_part wide bytes = drop (head_size wide) (take (stated wide bytes) bytes)

-- The place of the fault in bytes that begin at `place`, and with no entry (this profile).
-- An entry's length that counts bytes which are not there does not fit: the fault is at the length.
-- So it is where the length counts less than what stands before the parameters.
-- Else it is at a flag that is neither a directory's nor a file's, or where the bytes that the length counts stop being parameters.
pub data IsEntryBadAt (wide : Bool) (file_bits dir_bits place : ℕ) (bytes : List ℕ) (at : ℕ) : Type 0 where
  length_unfit : (HasEntryLength wide bytes → ⊥) → at ≡ place → IsEntryBadAt wide file_bits dir_bits place bytes at
  flag_unfit : HasEntryLength wide bytes → ((dir : Bool) → slice_index bytes (width wide) ≢ flag_of dir) → at ≡ place + width wide → IsEntryBadAt wide file_bits dir_bits place bytes at
  params_unfit : (dir : Bool) (within : ℕ) → HasEntryLength wide bytes → slice_index bytes (width wide) ≡ flag_of dir
      → IsBadAt (kind_for dir) (bits_for dir file_bits dir_bits) (params_part wide bytes) within → at ≡ place + (head_size wide + within)
      → IsEntryBadAt wide file_bits dir_bits place bytes at
