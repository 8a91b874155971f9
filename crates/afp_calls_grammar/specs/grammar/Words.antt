-- The words that requests are made of, and their bytes (AFP Reference, "AFP Calls"). All numbers are big-endian.
use Rattle.std.specs.Prelude.{◌≡◌, ◌⊎◌, ℕ, ℤ, ◌+◌, ◌%◌, ◌^◌, ◌<◌, ◌≤◌, ◌==◌, Bool, true, false, FitsSigned, List, [], ◌∷◌, ◌++◌, length, drop, replicate, Option, Some, None, is_some, if◌then◌else◌}
use Rattle.std.specs.Int.{w32, w64, cast_signed, cast_unsigned}
use Rattle.byteorder.specs.Endian.{big_number, big_bytes}
use Rattle.afp_base.specs.declared.ids.ForkRef.{ForkRef}
use Rattle.afp_base.specs.declared.ids.NodeId.{NodeId}
use Rattle.afp_base.specs.declared.ids.VolumeId.{VolumeId}
use Rattle.afp_names.specs.Path.{long_names, PathValue, IsPath, SpellsPath, canonical_path}

-- The sorts of fields: a byte of this value; a pad byte; a pad byte that a block may end before; a pad byte where the place is odd; an unsigned number in so many bytes; the same, from a least to a greatest; the same, as a count of what stands further on; a number that is there where a condition holds; signed numbers; so many bytes; a count in so many bytes, and the bytes; a path; all that remains.
pub data Word : Type 0 where
  Literal : ℕ → Word
  Pad : Word
  LastPad : Word
  Even : Word
  Number : ℕ → Word
  Within : ℕ → ℕ → ℕ → Word
  Count : ℕ → Word
  Optional : Bool → ℕ → Word
  Signed32 : Word
  Signed64 : Word
  Plain : ℕ → Word
  Counted : ℕ → Word
  Pathname : Word
  Tail : Word

-- the values of a word
abbrev pub Value : Word → Type 0
Value (Literal n) = Unit {0}
Value Pad = Unit {0}
Value LastPad = Unit {0}
Value Even = Unit {0}
Value (Number n) = ℕ
Value (Within n low high) = ℕ
Value (Count n) = ℕ
Value (Optional there n) = Option ℕ
Value Signed32 = ℤ
Value Signed64 = ℤ
Value (Plain n) = List ℕ
Value (Counted n) = List ℕ
Value Pathname = PathValue
Value Tail = List ℕ

-- a field: a word, and its value
pub record RequestField : Type 0 where
  pub word : Word
  pub value : Value word

-- the field words, as the requests write them
abbrev pub command : ℕ → RequestField
command n = record { word = Literal n; value = tt }

abbrev pub literal : ℕ → RequestField
literal n = record { word = Literal n; value = tt }

abbrev pub pad : RequestField
pad = record { word = Pad; value = tt }

abbrev pub last_pad : RequestField
last_pad = record { word = LastPad; value = tt }

abbrev pub even : RequestField
even = record { word = Even; value = tt }

abbrev pub u8 : ℕ → RequestField
u8 x = record { word = Number 1; value = x }

abbrev pub u16 : ℕ → RequestField
u16 x = record { word = Number 2; value = x }

abbrev pub u32 : ℕ → RequestField
u32 x = record { word = Number 4; value = x }

abbrev pub volume_id : VolumeId → RequestField
volume_id volume = u16 volume.0

abbrev pub node_id : NodeId → RequestField
node_id node = u32 node.0

abbrev pub fork_ref : ForkRef → RequestField
fork_ref reference = u16 reference.0

abbrev pub u8_within : ℕ → ℕ → ℕ → RequestField
u8_within low high x = record { word = Within 1 low high; value = x }

abbrev pub u16_within : ℕ → ℕ → ℕ → RequestField
u16_within low high x = record { word = Within 2 low high; value = x }

abbrev pub count_in : ℕ → ℕ → RequestField
count_in n x = record { word = Count n; value = x }

abbrev pub optional : Bool → ℕ → Option ℕ → RequestField
optional there n x = record { word = Optional there n; value = x }

abbrev pub i32 : ℤ → RequestField
i32 x = record { word = Signed32; value = x }

abbrev pub i64 : ℤ → RequestField
i64 x = record { word = Signed64; value = x }

abbrev pub plain_bytes : ℕ → List ℕ → RequestField
plain_bytes n bytes = record { word = Plain n; value = bytes }

abbrev pub counted_field : ℕ → List ℕ → RequestField
counted_field n bytes = record { word = Counted n; value = bytes }

abbrev pub str : List ℕ → RequestField
str bytes = counted_field 1 bytes

abbrev pub pathname : PathValue → RequestField
pathname p = record { word = Pathname; value = p }

abbrev pub tail : List ℕ → RequestField
tail bytes = record { word = Tail; value = bytes }

-- the bytes are a count in n bytes, and the text that it counts
pub record IsCountedText (n : ℕ) (text bytes : List ℕ) : Type 0 where
  pub length_is : length bytes ≡ n + length text
  pub count_is : big_number n bytes ≡ length text
  pub text_is : drop n bytes ≡ text

-- the size of the hint and of the count before a path's bytes, by its type (AFP Reference, "Pathnames")
abbrev pub hint_size : ℕ → ℕ
hint_size kind = if kind == long_names then 0 else 4

abbrev pub count_size : ℕ → ℕ
count_size kind = if kind == long_names then 1 else 2

-- the bytes are a path's type, for UTF-8 names a hint of 4 bytes of any value, a count of 1 byte for long names and of 2 bytes else, and as many bytes, which spell the path
pub record SpellsPathname (p : PathValue) (bytes : List ℕ) : Type 0 where
  pub hint : List ℕ
  pub text : List ℕ
  pub behind_hint : List ℕ
  pub whole : bytes ≡ p.kind ∷ (hint ++ behind_hint)
  pub hint_length : length hint ≡ hint_size p.kind
  pub count : IsCountedText (count_size p.kind) text behind_hint
  pub spells : SpellsPath text p

-- the number is there exactly where the condition holds
abbrev pub IsOptional : Bool → ℕ → Option ℕ → List ℕ → Type 0
IsOptional true n (Some x) bytes = (length bytes ≡ n) × (big_number n bytes ≡ x)
IsOptional true n None bytes = ⊥
IsOptional false n (Some x) bytes = ⊥
IsOptional false n None bytes = bytes ≡ []

-- These bytes, which begin at this place of their block and have the rest behind them, spell the word with this value.
abbrev pub IsWordSpelling : (w : Word) → Value w → ℕ → List ℕ → List ℕ → Type 0
IsWordSpelling (Literal n) x place bytes rest = bytes ≡ n ∷ []
IsWordSpelling Pad x place bytes rest = length bytes ≡ 1
IsWordSpelling LastPad x place bytes rest = (length bytes ≡ 1) ⊎ ((bytes ≡ []) × (rest ≡ []))
IsWordSpelling Even x place bytes rest = length bytes ≡ place % 2
IsWordSpelling (Number n) x place bytes rest = (length bytes ≡ n) × (big_number n bytes ≡ x)
IsWordSpelling (Within n low high) x place bytes rest = (length bytes ≡ n) × (big_number n bytes ≡ x) × (low ≤ x) × (x ≤ high)
IsWordSpelling (Count n) x place bytes rest = (length bytes ≡ n) × (big_number n bytes ≡ x)
IsWordSpelling (Optional there n) x place bytes rest = IsOptional there n x bytes
IsWordSpelling Signed32 x place bytes rest = (length bytes ≡ 4) × (cast_signed w32 (big_number 4 bytes) ≡ x)
IsWordSpelling Signed64 x place bytes rest = (length bytes ≡ 8) × (cast_signed w64 (big_number 8 bytes) ≡ x)
IsWordSpelling (Plain n) x place bytes rest = (length bytes ≡ n) × (bytes ≡ x)
IsWordSpelling (Counted n) x place bytes rest = IsCountedText n x bytes
IsWordSpelling Pathname x place bytes rest = SpellsPathname x bytes
IsWordSpelling Tail x place bytes rest = (bytes ≡ x) × (rest ≡ [])

-- The bytes, of which the first stands at this place of its block, begin with these fields. What stands behind them is free.
abbrev pub BeginsWith : ℕ → List RequestField → List ℕ → Type 0
BeginsWith place [] bytes = Unit {0}
BeginsWith place (f ∷ fs) bytes = (first : List ℕ) × (rest : List ℕ) × (bytes ≡ first ++ rest) × IsWordSpelling f.word f.value place first rest × BeginsWith (place + length first) fs rest

-- the number, where there is one, has n bytes
abbrev pub IsNumberIn : ℕ → Option ℕ → Type 0
IsNumberIn n None = Unit {0}
IsNumberIn n (Some x) = x < 256 ^ n

-- a number is one of its type, and a path is a path; of bytes nothing is asked, and counts are for the next definition
abbrev pub IsTypedValue : (w : Word) → Value w → Type 0
IsTypedValue (Number n) x = x < 256 ^ n
IsTypedValue (Within n low high) x = x < 256 ^ n
IsTypedValue (Optional there n) x = IsNumberIn n x
IsTypedValue Signed32 x = FitsSigned w32 x
IsTypedValue Signed64 x = FitsSigned w64 x
IsTypedValue Pathname x = IsPath x
IsTypedValue w x = Unit {0}

-- the value can be spelt: the number is in its range, or there exactly where it is asked; the bytes are as many as are asked, or few enough for their count
abbrev pub CanSpell : (w : Word) → Value w → Type 0
CanSpell (Within n low high) x = (low ≤ x) × (x ≤ high)
CanSpell (Count n) x = x < 256 ^ n
CanSpell (Optional there n) x = is_some x ≡ there
CanSpell (Plain n) x = length x ≡ n
CanSpell (Counted n) x = length x < 256 ^ n
CanSpell w x = Unit {0}

-- a number that may be there
abbrev pub optional_bytes : ℕ → Option ℕ → List ℕ
optional_bytes n None = []
optional_bytes n (Some x) = big_bytes n x

-- the canonical bytes, in the block, of a field that begins at this place
abbrev pub canonical : (w : Word) → Value w → ℕ → List ℕ
canonical (Literal n) x place = n ∷ []
canonical Pad x place = 0 ∷ []
canonical LastPad x place = 0 ∷ []
canonical Even x place = replicate (place % 2) 0
canonical (Number n) x place = big_bytes n x
canonical (Within n low high) x place = big_bytes n x
canonical (Count n) x place = big_bytes n x
canonical (Optional there n) x place = optional_bytes n x
canonical Signed32 x place = big_bytes 4 (cast_unsigned w32 x)
canonical Signed64 x place = big_bytes 8 (cast_unsigned w64 x)
canonical (Plain n) x place = x
canonical (Counted n) x place = big_bytes n (length x) ++ x
canonical Pathname x place = x.kind ∷ (replicate (hint_size x.kind) 0 ++ (big_bytes (count_size x.kind) (length (canonical_path x)) ++ canonical_path x))
canonical Tail x place = x

-- the canonical bytes of fields, one after the other
abbrev pub canonical_fields : ℕ → List RequestField → List ℕ
canonical_fields place [] = []
canonical_fields place (f ∷ fs) = canonical f.word f.value place ++ canonical_fields (place + length (canonical f.word f.value place)) fs

-- What comes with a block: nothing, in a Command frame; or so many bytes and these, in a Write frame (AFP over TCP, "DSIWrite").
pub data Enclosed : Type 0 where
  Nothing : Enclosed
  Piece : ℕ → List ℕ → Enclosed

-- a request's fields, and what comes with them
pub record Layout : Type 0 where
  pub fields : List RequestField
  pub enclosed : Enclosed

abbrev pub in_command : List RequestField → Layout
in_command fields = record { fields = fields; enclosed = Nothing }

abbrev pub in_write : List RequestField → ℕ → List ℕ → Layout
in_write fields size piece = record { fields = fields; enclosed = Piece size piece }

-- Where the request has a piece, it comes in a Write frame whose data begin with it, and it has its size; what stands behind it is dropped. Where it has none, it comes in a Command frame.
abbrev pub IsEnclosed : Enclosed → Option (List ℕ) → Type 0
IsEnclosed Nothing None = Unit {0}
IsEnclosed Nothing (Some bytes) = ⊥
IsEnclosed (Piece size piece) None = ⊥
IsEnclosed (Piece size piece) (Some bytes) = (more : List ℕ) × (bytes ≡ piece ++ more) × (length piece ≡ size)

-- the piece has its size
abbrev pub CanEnclose : Enclosed → Type 0
CanEnclose Nothing = Unit {0}
CanEnclose (Piece size piece) = length piece ≡ size

-- what is written: the piece alone
abbrev pub canonical_enclosed : Enclosed → Option (List ℕ)
canonical_enclosed Nothing = None
canonical_enclosed (Piece size piece) = Some piece

-- the bytes that are written to go with the block: the piece, or none where the request has none
abbrev pub enclosed_bytes : Enclosed → List ℕ
enclosed_bytes Nothing = []
enclosed_bytes (Piece size piece) = piece
