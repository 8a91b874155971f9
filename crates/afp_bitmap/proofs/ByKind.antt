-- The three kinds, and what is read of each.
use Rattle.std.proofs.Common.{◌≡◌, ℕ, ℤ, pos, zero, suc, get_or, ◌≤◌, List, [], map, Result, Ok, Err, refl, sym, ap, subst, ◌∙◌, arith}
use Rattle.std.specs.Prelude.{IfOk, MatchResult}
use Rattle.afp_bitmap.specs.declared.volume.TheConstants as volume
use Rattle.afp_bitmap.specs.declared.file.TheConstants as file
use Rattle.afp_bitmap.specs.declared.directory.TheConstants as directory
use Rattle.afp_bitmap.specs.declared.volume.VolumeValues.{VolumeValues}
use Rattle.afp_bitmap.specs.declared.file.FileValues.{FileValues}
use Rattle.afp_bitmap.specs.declared.directory.DirValues.{DirValues}
use Rattle.afp_bitmap.specs.declared.params.Values.{Values}
use Rattle.afp_bitmap.specs.declared.params.Values.TheVariants.{Volume, File, Dir}
use Rattle.afp_bitmap.specs.declared.params.ParamFault.{ParamFault}
use Rattle.afp_bitmap.specs.declared.params.ParamFault.TheVariants as faults
use Rattle.afp_bitmap.specs.Field.{Field, Number, Date, Finder, LongName, Utf8Name}
use Rattle.afp_bitmap.specs.Params.{params, IsAnswer, IsBadAt, IfBad}
use Rattle.afp_bitmap.specs.lemma.Read.{volume_at, file_at, dir_at, reading}
use Rattle.afp_bitmap.specs.lemma.Reading.{◌>>=◌, Gives, judged, volume_from, file_from, dir_from}
use Rattle.afp_bitmap.specs.Table.{FieldRow, volume_rows, file_rows, dir_rows, rows, kind_of}
use Rattle.afp_bitmap.proofs.Asked.{slot_of}
use Rattle.afp_bitmap.proofs.Blocks.{Kind}
use Rattle.afp_bitmap.proofs.Filled.{taken_rows}
use Rattle.afp_bitmap.proofs.Formed.{Formed, fields}
use Rattle.afp_bitmap.proofs.Judgements.{Judgement, judgement, Again, again}
use Rattle.afp_base.specs.Bytes.{IsBytes}
use Rattle.afp_bitmap.proofs.Tables.{volume_table, volume_small, volume_formed, file_table, file_small, file_formed, dir_table, dir_small, dir_formed}
use Rattle.afp_bitmap.proofs.Walks.{bind_ok}

-- two steps that never fail
twice : {X Y Z : Type 0} (r : Result X ℕ) (f : X → Y) (g : Y → Z) → ((r >>= λ x. Ok (f x)) >>= λ y. Ok (g y)) ≡ (r >>= λ x. Ok (g (f x)))
twice (Ok x) f g = refl
twice (Err at) f g = refl

-- the value of a field
abbrev number : Field → ℕ
number (Number n x) = x
number f = 0

abbrev date : Field → ℤ
date (Date z) = z
date f = pos 0

abbrev bytes_of : Field → List ℕ
bytes_of (Finder info) = info
bytes_of (LongName name) = name
bytes_of (Utf8Name name) = name
bytes_of f = []

abbrev field_in : List FieldRow → ℕ → Field
field_in rs i = (get_or rs i (0, Number 0 0)).1

-- ---- volume

abbrev volume_make : ℕ → List ℕ → List ℕ → List ℕ → Values
volume_make bits bytes l u = Volume (volume_from bits bytes l)

volume_slots : (w : Values) → kind_of w ≡ 0 → map slot_of (rows w) ≡ volume.TABLE
unfolding rows
volume_slots (Volume v) h = volume_table v
volume_slots (File v) h = absurd (omega arith)
volume_slots (Dir v) h = absurd (omega arith)

volume_form : (w : Values) → kind_of w ≡ 0 → Formed (fields (rows w))
unfolding rows
volume_form (Volume v) h = volume_formed v
volume_form (File v) h = absurd (omega arith)
volume_form (Dir v) h = absurd (omega arith)

volume_made_rows : (bits : ℕ) (v : VolumeValues) (bytes l u : List ℕ) → volume_rows (volume_from bits bytes l) ≡ taken_rows bits (volume_rows v) bytes l u
unfolding volume_rows volume_from
volume_made_rows bits v bytes l u = refl

volume_made : (bits : ℕ) (w : Values) (bytes l u : List ℕ) → kind_of w ≡ 0 → rows (volume_make bits bytes l u) ≡ taken_rows bits (rows w) bytes l u
unfolding rows
volume_made bits (Volume v) bytes l u h = volume_made_rows bits v bytes l u
volume_made bits (File v) bytes l u h = absurd (omega arith)
volume_made bits (Dir v) bytes l u h = absurd (omega arith)

-- the values in the rows
abbrev volume_back : List FieldRow → VolumeValues
volume_back rs = record { attributes = number (field_in rs 0); signature = number (field_in rs 1); created = date (field_in rs 2); modified = date (field_in rs 3); backup = date (field_in rs 4); volume = number (field_in rs 5); free = number (field_in rs 6); total = number (field_in rs 7); name = bytes_of (field_in rs 8); ext_free = number (field_in rs 9); ext_total = number (field_in rs 10); block_size = number (field_in rs 11) }

volume_same_rows : (v w : VolumeValues) → volume_rows v ≡ volume_rows w → v ≡ w
unfolding volume_rows
volume_same_rows v w e = ap volume_back e

volume_same : (v w : Values) → kind_of v ≡ 0 → kind_of w ≡ 0 → rows v ≡ rows w → v ≡ w
unfolding rows
volume_same (Volume v) (Volume w) h k e = ap (λ (x : VolumeValues). Volume x) (volume_same_rows v w e)
volume_same (Volume v) (File w) h k e = absurd (omega arith)
volume_same (Volume v) (Dir w) h k e = absurd (omega arith)
volume_same (File v) w h k e = absurd (omega arith)
volume_same (Dir v) w h k e = absurd (omega arith)

abbrev volume_kind : (bits : ℕ) → Kind 0 bits
volume_kind bits = record {
  table = volume.TABLE;
  small = volume_small bits;
  make = volume_make bits;
  make_kind = λ bytes l u. refl;
  slots_of = volume_slots;
  formed_of = volume_form;
  made = volume_made bits;
  same = volume_same;
}

volume_reading : (bits : ℕ) (bytes : List ℕ) → reading 0 bits bytes ≡ (judged bits volume.TABLE bytes >>= λ n. Ok (volume_make bits bytes n.0 n.1))
unfolding reading volume_at
volume_reading bits bytes = twice (judged bits volume.TABLE bytes) (λ n. volume_from bits bytes n.0) (λ v. Volume v)

-- ---- file

abbrev file_make : ℕ → List ℕ → List ℕ → List ℕ → Values
file_make bits bytes l u = File (file_from bits bytes l u)

file_slots : (w : Values) → kind_of w ≡ 1 → map slot_of (rows w) ≡ file.TABLE
unfolding rows
file_slots (Volume v) h = absurd (omega arith)
file_slots (File v) h = file_table v
file_slots (Dir v) h = absurd (omega arith)

file_form : (w : Values) → kind_of w ≡ 1 → Formed (fields (rows w))
unfolding rows
file_form (Volume v) h = absurd (omega arith)
file_form (File v) h = file_formed v
file_form (Dir v) h = absurd (omega arith)

file_made_rows : (bits : ℕ) (v : FileValues) (bytes l u : List ℕ) → file_rows (file_from bits bytes l u) ≡ taken_rows bits (file_rows v) bytes l u
unfolding file_rows file_from
file_made_rows bits v bytes l u = refl

file_made : (bits : ℕ) (w : Values) (bytes l u : List ℕ) → kind_of w ≡ 1 → rows (file_make bits bytes l u) ≡ taken_rows bits (rows w) bytes l u
unfolding rows
file_made bits (Volume v) bytes l u h = absurd (omega arith)
file_made bits (File v) bytes l u h = file_made_rows bits v bytes l u
file_made bits (Dir v) bytes l u h = absurd (omega arith)

-- the values in the rows
abbrev file_back : List FieldRow → FileValues
file_back rs = record { attributes = number (field_in rs 0); parent = number (field_in rs 1); created = date (field_in rs 2); modified = date (field_in rs 3); backup = date (field_in rs 4); finder = bytes_of (field_in rs 5); long_name = bytes_of (field_in rs 6); id = number (field_in rs 7); data_length = number (field_in rs 8); resource_length = number (field_in rs 9); ext_data_length = number (field_in rs 10); utf8_name = bytes_of (field_in rs 11); ext_resource_length = number (field_in rs 12) }

file_same_rows : (v w : FileValues) → file_rows v ≡ file_rows w → v ≡ w
unfolding file_rows
file_same_rows v w e = ap file_back e

file_same : (v w : Values) → kind_of v ≡ 1 → kind_of w ≡ 1 → rows v ≡ rows w → v ≡ w
unfolding rows
file_same (Volume v) w h k e = absurd (omega arith)
file_same (File v) (Volume w) h k e = absurd (omega arith)
file_same (File v) (File w) h k e = ap (λ (x : FileValues). File x) (file_same_rows v w e)
file_same (File v) (Dir w) h k e = absurd (omega arith)
file_same (Dir v) w h k e = absurd (omega arith)

abbrev file_kind : (bits : ℕ) → Kind 1 bits
file_kind bits = record {
  table = file.TABLE;
  small = file_small bits;
  make = file_make bits;
  make_kind = λ bytes l u. refl;
  slots_of = file_slots;
  formed_of = file_form;
  made = file_made bits;
  same = file_same;
}

file_reading : (bits : ℕ) (bytes : List ℕ) → reading 1 bits bytes ≡ (judged bits file.TABLE bytes >>= λ n. Ok (file_make bits bytes n.0 n.1))
unfolding reading file_at
file_reading bits bytes = twice (judged bits file.TABLE bytes) (λ n. file_from bits bytes n.0 n.1) (λ v. File v)

-- ---- directory

abbrev dir_make : ℕ → List ℕ → List ℕ → List ℕ → Values
dir_make bits bytes l u = Dir (dir_from bits bytes l u)

dir_slots : (w : Values) → kind_of w ≡ 2 → map slot_of (rows w) ≡ directory.TABLE
unfolding rows
dir_slots (Volume v) h = absurd (omega arith)
dir_slots (File v) h = absurd (omega arith)
dir_slots (Dir v) h = dir_table v

dir_form : (w : Values) → kind_of w ≡ 2 → Formed (fields (rows w))
unfolding rows
dir_form (Volume v) h = absurd (omega arith)
dir_form (File v) h = absurd (omega arith)
dir_form (Dir v) h = dir_formed v

dir_made_rows : (bits : ℕ) (v : DirValues) (bytes l u : List ℕ) → dir_rows (dir_from bits bytes l u) ≡ taken_rows bits (dir_rows v) bytes l u
unfolding dir_rows dir_from
dir_made_rows bits v bytes l u = refl

dir_made : (bits : ℕ) (w : Values) (bytes l u : List ℕ) → kind_of w ≡ 2 → rows (dir_make bits bytes l u) ≡ taken_rows bits (rows w) bytes l u
unfolding rows
dir_made bits (Volume v) bytes l u h = absurd (omega arith)
dir_made bits (File v) bytes l u h = absurd (omega arith)
dir_made bits (Dir v) bytes l u h = dir_made_rows bits v bytes l u

-- the values in the rows
abbrev dir_back : List FieldRow → DirValues
dir_back rs = record { attributes = number (field_in rs 0); parent = number (field_in rs 1); created = date (field_in rs 2); modified = date (field_in rs 3); backup = date (field_in rs 4); finder = bytes_of (field_in rs 5); long_name = bytes_of (field_in rs 6); id = number (field_in rs 7); offspring = number (field_in rs 8); owner = number (field_in rs 9); group = number (field_in rs 10); rights = number (field_in rs 11); utf8_name = bytes_of (field_in rs 12) }

dir_same_rows : (v w : DirValues) → dir_rows v ≡ dir_rows w → v ≡ w
unfolding dir_rows
dir_same_rows v w e = ap dir_back e

dir_same : (v w : Values) → kind_of v ≡ 2 → kind_of w ≡ 2 → rows v ≡ rows w → v ≡ w
unfolding rows
dir_same (Volume v) w h k e = absurd (omega arith)
dir_same (File v) w h k e = absurd (omega arith)
dir_same (Dir v) (Volume w) h k e = absurd (omega arith)
dir_same (Dir v) (File w) h k e = absurd (omega arith)
dir_same (Dir v) (Dir w) h k e = ap (λ (x : DirValues). Dir x) (dir_same_rows v w e)

abbrev dir_kind : (bits : ℕ) → Kind 2 bits
dir_kind bits = record {
  table = directory.TABLE;
  small = dir_small bits;
  make = dir_make bits;
  make_kind = λ bytes l u. refl;
  slots_of = dir_slots;
  formed_of = dir_form;
  made = dir_made bits;
  same = dir_same;
}

dir_reading : (bits : ℕ) (bytes : List ℕ) → reading 2 bits bytes ≡ (judged bits directory.TABLE bytes >>= λ n. Ok (dir_make bits bytes n.0 n.1))
unfolding reading dir_at
dir_reading bits bytes = twice (judged bits directory.TABLE bytes) (λ n. dir_from bits bytes n.0 n.1) (λ v. Dir v)

-- ---- the clauses

-- what was read is a block's values, or the bytes are bad there
abbrev pub IsReading : ℕ → ℕ → List ℕ → Result Values ℕ → Type 0
IsReading kind bits bytes (Ok v) = IsAnswer kind bits v × (bytes ≡ params bits v)
IsReading kind bits bytes (Err at) = IsBadAt kind bits bytes at

kind_judged : {kind bits : ℕ} (k : Kind kind bits) (bytes : List ℕ) (r : Result (List ℕ × List ℕ) ℕ) → Judgement k bytes r → IsReading kind bits bytes (r >>= λ n. Ok (k.make bytes n.0 n.1))
kind_judged k bytes (Ok x) h = (h.answer, h.block)
kind_judged k bytes (Err at) h = h

kind_again : {kind bits : ℕ} (k : Kind kind bits) (bytes : List ℕ) (v : Values) → Again k bytes v → (judged bits k.table bytes >>= λ n. Ok (k.make bytes n.0 n.1)) ≡ Ok v
kind_again {kind} {bits} k bytes v h =
    bind_ok (judged bits k.table bytes) (λ n. Ok (k.make bytes n.0 n.1)) (h.long, h.utf8) h.judged_so ∙ ap (λ (w : Values). Ok w) h.values

pub reading_is : (kind bits : ℕ) (bytes : List ℕ) → kind ≤ 2 → IsBytes bytes → IsReading kind bits bytes (reading kind bits bytes)
reading_is zero bits bytes le b = subst (IsReading 0 bits bytes) (sym (volume_reading bits bytes)) (kind_judged (volume_kind bits) bytes (judged bits volume.TABLE bytes) (judgement (volume_kind bits) bytes b))
reading_is (suc zero) bits bytes le b = subst (IsReading 1 bits bytes) (sym (file_reading bits bytes)) (kind_judged (file_kind bits) bytes (judged bits file.TABLE bytes) (judgement (file_kind bits) bytes b))
reading_is (suc (suc zero)) bits bytes le b = subst (IsReading 2 bits bytes) (sym (dir_reading bits bytes)) (kind_judged (dir_kind bits) bytes (judged bits directory.TABLE bytes) (judgement (dir_kind bits) bytes b))
reading_is (suc (suc (suc kind))) bits bytes le b = absurd (omega arith)

pub reading_again : (kind bits : ℕ) (bytes : List ℕ) (v : Values) → kind ≤ 2 → IsBytes bytes → IsAnswer kind bits v → bytes ≡ params bits v → reading kind bits bytes ≡ Ok v
reading_again zero bits bytes v le b h e = volume_reading bits bytes ∙ kind_again (volume_kind bits) bytes v (again (volume_kind bits) bytes v b h e)
reading_again (suc zero) bits bytes v le b h e = file_reading bits bytes ∙ kind_again (file_kind bits) bytes v (again (file_kind bits) bytes v b h e)
reading_again (suc (suc zero)) bits bytes v le b h e = dir_reading bits bytes ∙ kind_again (dir_kind bits) bytes v (again (dir_kind bits) bytes v b h e)
reading_again (suc (suc (suc kind))) bits bytes v le b h e = absurd (omega arith)

-- what the code returned, by what reading gives
pub is_found : (kind bits : ℕ) (bytes : List ℕ) (r : Result Values ParamFault) (read : Result Values ℕ) → Gives (λ v. v) r read → IsReading kind bits bytes read
    → IfOk r (λ v. IsAnswer kind bits v × (bytes ≡ params bits v))
is_found kind bits bytes (Ok v) read g h = let P : Result Values ℕ → Type 0 = IsReading kind bits bytes in subst P g h
is_found kind bits bytes (Err e) read g h = tt

pub is_bad : (kind bits : ℕ) (bytes : List ℕ) (r : Result Values ParamFault) (read : Result Values ℕ) → Gives (λ v. v) r read → IsReading kind bits bytes read → IfBad r (IsBadAt kind bits bytes)
is_bad kind bits bytes (Ok v) read g h = tt
is_bad kind bits bytes (Err faults.Memory) read g h = tt
is_bad kind bits bytes (Err (faults.Bad at)) read g h = let P : Result Values ℕ → Type 0 = IsReading kind bits bytes in subst P g h

pub is_only : (v : Values) (r : Result Values ParamFault) (read : Result Values ℕ) → Gives (λ w. w) r read → read ≡ Ok v → MatchResult r (λ w. w ≡ v) (λ fault. fault ≡ faults.Memory)
is_only v (Ok w) read g h = cc
is_only v (Err faults.Memory) read g h = refl
is_only v (Err (faults.Bad at)) read g h = absurd cc

abbrev done : Values → Result Values ℕ
done v = Ok v

pub ok_is : (v w : Values) → done v ≡ done w → v ≡ w
ok_is v w e = cc
