-- Where names stand in a block of parameters (AFP Reference, "FPGetFileDirParms").
use Rattle.std.specs.Prelude.{◌≡◌, ℕ, List, ◌∷◌, ◌++◌, length, take, drop}
use Rattle.byteorder.specs.Endian.{big_number}
use Rattle.afp_bitmap.specs.declared.params.Values.{Values}
use Rattle.afp_bitmap.specs.Field.{Field, LongName, Utf8Name, long_name_bytes, utf8_name_bytes}
use Rattle.afp_bitmap.specs.Params.{asked, params, size_of_fixed_part, IsAnswer}

-- At `at` stands an offset in 2 bytes, and at that offset these bytes; both are counted from the block's first byte.
abbrev pub StandsAtOffset : List ℕ → ℕ → List ℕ → Type 0
StandsAtOffset block at bytes = take (length bytes) (drop (big_number 2 (drop at block)) block) ≡ bytes

-- the laws: the offset of a volume's or a long name, which stands behind the fields before it, leads to its count and its bytes; that of a UTF-8 name to its hint, its count and its bytes
abbrev pub LongNameStands : Type 0
LongNameStands =
    (kind bits : ℕ) (v : Values) (before after : List Field) (name : List ℕ) → IsAnswer kind bits v → asked bits v ≡ before ++ (LongName name ∷ after)
    → StandsAtOffset (params bits v) (size_of_fixed_part before) (long_name_bytes name)

abbrev pub Utf8NameStands : Type 0
Utf8NameStands =
    (kind bits : ℕ) (v : Values) (before after : List Field) (name : List ℕ) → IsAnswer kind bits v → asked bits v ≡ before ++ (Utf8Name name ∷ after)
    → StandsAtOffset (params bits v) (size_of_fixed_part before) (utf8_name_bytes name)
