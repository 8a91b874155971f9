-- A block of parameters: the asked fields by rising bit, and behind them the asked names.
use Rattle.std.specs.Prelude.{◌≡◌, ℕ, ◌+◌, ◌<◌, List, [], ◌∷◌, ◌++◌, length, take, map, filter, MatchBool, ◌⊎◌, Result, Ok, Err}
use Rattle.std.specs.List.{flat_map, concat, AllByRecursion}
use Rattle.afp_bitmap.specs.declared.params.ParamFault.{ParamFault}
use Rattle.afp_bitmap.specs.declared.params.ParamFault.TheVariants as faults
use Rattle.afp_bitmap.specs.declared.params.Values.{Values}
use Rattle.afp_bitmap.specs.Bits.{is_asked}
use Rattle.afp_bitmap.specs.Field.{Field, fixed_size, fixed_bytes, name_parts, blank, IsCountable, IsTyped}
use Rattle.afp_bitmap.specs.Table.{FieldRow, rows, kind_of}

-- the fields of the rows that the bits ask for (AFP Reference, "FPGetFileDirParms")
unfoldable pub asked_of : ℕ → List FieldRow → List Field
asked_of bits table = map (λ r. r.1) (filter (λ r. is_asked bits r.0) table)

-- the fields that the bits ask for
abbrev pub asked : ℕ → Values → List Field
asked bits v = asked_of bits (rows v)

-- the size of a field's name and its pad (this profile)
abbrev pub name_size : Field → ℕ
name_size field = length (concat (name_parts field))

-- The fields of the fixed part, each apart. The names stand from `place` on, one after the other (AFP Reference, "FPGetFileDirParms").
abbrev pub fixed_parts : ℕ → List Field → List (List ℕ)
fixed_parts place [] = []
fixed_parts place (f ∷ fs) = fixed_bytes place f ∷ fixed_parts (place + name_size f) fs

-- the size of the fixed part: the sizes of its fields
abbrev pub size_of_fixed_part : List Field → ℕ
size_of_fixed_part [] = 0
size_of_fixed_part (f ∷ fs) = fixed_size f + size_of_fixed_part fs

-- The parts of a block in order: the fields of the fixed part, then each name and its pad. The first name stands behind the fixed part (AFP Reference, "FPGetFileDirParms").
abbrev pub parts : List Field → List (List ℕ)
parts fs = fixed_parts (size_of_fixed_part fs) fs ++ flat_map name_parts fs

-- the block of the asked values (AFP Reference, "FPGetFileDirParms")
abbrev pub params : ℕ → Values → List ℕ
params bits v = concat (parts (asked bits v))

-- an asked name can be counted, and what was not asked is zero or empty
abbrev pub RowFits : ℕ → FieldRow → Type 0
RowFits bits r = MatchBool (is_asked bits r.0) (IsCountable r.1) (r.1 ≡ blank r.1)

-- the values have a block for these bits (this profile)
unfoldable pub Fits : ℕ → Values → Type 0
Fits bits v = AllByRecursion (RowFits bits) (rows v)

-- Values of that kind that the bits ask for, each value one of its type (this profile)
pub record IsAnswer (kind bits : ℕ) (v : Values) : Type 0 where
  pub kind_is : kind_of v ≡ kind
  pub fits : Fits bits v
  pub typed : AllByRecursion (λ r. IsTyped r.1) (rows v)

-- The bytes begin with the first `count` parts of the values' block, which end at the place `at`.
pub record BeginsBlock (bits : ℕ) (v : Values) (count : ℕ) (bytes : List ℕ) (at : ℕ) : Type 0 where
  pub rest : List ℕ
  pub front_is : bytes ≡ concat (take count (parts (asked bits v))) ++ rest
  pub at_is : at ≡ length (concat (take count (parts (asked bits v))))

-- At this place a part does not fit: the first `count` parts of some values end there, no values have more parts in the bytes, and the first `count` parts of no other values end elsewhere (this profile).
pub record BreaksAt (kind bits : ℕ) (bytes : List ℕ) (at : ℕ) : Type 0 where
  pub count : ℕ
  pub values : Values
  pub answer : IsAnswer kind bits values
  pub up_to : BeginsBlock bits values count bytes at
  pub no_further : (w : Values) (end : ℕ) → IsAnswer kind bits w → BeginsBlock bits w (count + 1) bytes end → ⊥
  pub one_place : (w : Values) (end : ℕ) → IsAnswer kind bits w → BeginsBlock bits w count bytes end → end ≡ at

-- At this place some values' block ends, and bytes remain; no other values' block ends elsewhere (this profile).
pub record EndsAt (kind bits : ℕ) (bytes : List ℕ) (at : ℕ) : Type 0 where
  pub values : Values
  pub rest : List ℕ
  pub answer : IsAnswer kind bits values
  pub whole : bytes ≡ params bits values ++ rest
  pub at_is : at ≡ length (params bits values)
  pub remain : 0 < length rest
  pub one_place : (w : Values) (more : List ℕ) → IsAnswer kind bits w → bytes ≡ params bits w ++ more → length (params bits w) ≡ at

-- the place where bytes stop being a block of that kind for these bits (this profile)
abbrev pub IsBadAt : ℕ → ℕ → List ℕ → ℕ → Type 0
IsBadAt kind bits bytes at = BreaksAt kind bits bytes at ⊎ EndsAt kind bits bytes at

-- what holds of the place of a fault, where there is one
abbrev pub IfBad : {X : Type 0} → Result X ParamFault → (ℕ → Type 0) → Type 0
IfBad (Ok x) P = Unit {0}
IfBad (Err faults.Memory) P = Unit {0}
IfBad (Err (faults.Bad at)) P = P at
