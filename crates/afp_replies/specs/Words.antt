-- The fields that replies are made of, and their bytes (AFP Reference, "AFP Calls"). All numbers are big-endian.
use Rattle.std.specs.Prelude.{◌≡◌, ℕ, ◌^◌, ◌<◌, Bool, List, [], ◌∷◌, length}
use Rattle.byteorder.specs.Endian.{big_bytes}
use Rattle.afp_bitmap.specs.Bits.{IsWithin}
use Rattle.afp_replies.specs.declared.list.ListEntry.{ListEntry}
use Rattle.afp_replies.specs.Bytes.{with_count, flag_of}
use Rattle.afp_replies.specs.Entry.{IsEntry, IsEntryBadAt}

-- The sorts of fields: an unsigned number of so many bytes; a number of so many bytes that must be this one;
-- the bits that were asked, which lie in this mask; so many bytes as they are; a pad byte;
-- a count in so many bytes and the text that it counts; the flag of a directory or a file;
-- an entry of a list, narrow or wide, for these bits of files and directories.
pub data ReplyWord : Type 0 where
  Number : ℕ → ReplyWord
  Exactly : ℕ → ℕ → ReplyWord
  Asked : ℕ → ℕ → ReplyWord
  Raw : ℕ → ReplyWord
  Pad : ReplyWord
  Counted : ℕ → ReplyWord
  Flag : ReplyWord
  Entry : Bool → ℕ → ℕ → ReplyWord

-- what a field tells
abbrev pub ReplyValue : ReplyWord → Type 0
ReplyValue (Number n) = ℕ
ReplyValue (Exactly n x) = Unit {0}
ReplyValue (Asked mask bits) = Unit {0}
ReplyValue (Raw n) = List ℕ
ReplyValue Pad = Unit {0}
ReplyValue (Counted n) = List ℕ
ReplyValue Flag = Bool
ReplyValue (Entry wide file_bits dir_bits) = ListEntry

-- These bytes are the field with this value. A reply's own pad byte has any value; those inside parameters are 0. A flag has no value but two (this profile).
abbrev pub SpellsWord : (w : ReplyWord) → ReplyValue w → List ℕ → Type 0
SpellsWord (Number n) x bytes = (x < 256 ^ n) × (bytes ≡ big_bytes n x)
SpellsWord (Exactly n y) x bytes = bytes ≡ big_bytes n y
SpellsWord (Asked mask bits) x bytes = IsWithin mask bits × (bytes ≡ big_bytes 2 bits)
SpellsWord (Raw n) x bytes = (length x ≡ n) × (bytes ≡ x)
SpellsWord Pad x bytes = length bytes ≡ 1
SpellsWord (Counted n) x bytes = (length x < 256 ^ n) × (bytes ≡ with_count n x)
SpellsWord Flag x bytes = bytes ≡ flag_of x ∷ []
SpellsWord (Entry wide file_bits dir_bits) x bytes = IsEntry wide file_bits dir_bits x bytes

-- the place of the fault where bytes that begin at `place` do not begin with the field: inside an entry, else the field's own
abbrev pub FaultAt : ReplyWord → ℕ → List ℕ → ℕ → Type 0
FaultAt (Entry wide file_bits dir_bits) place bytes at = IsEntryBadAt wide file_bits dir_bits place bytes at
FaultAt w place bytes at = at ≡ place
