-- How the code reads, from left to right, for its proofs; no public contract cites it.
use Rattle.std.specs.Prelude.{◌≡◌, ℕ, zero, suc, ◌+◌, ◌-◌, ◌%◌, Bool, true, false, ◌&&◌, ◌==◌, nat_le, if◌then◌else◌, List, [], ◌∷◌, length, take, drop, replicate, Option, Some, None, is_some, Result, Ok, Err}
use Rattle.std.specs.Int.{w32, cast_signed}
use Rattle.byteorder.specs.Endian.{big_number}
use Rattle.afp_bitmap.specs.declared.table.Shape.{Shape}
use Rattle.afp_bitmap.specs.declared.table.Shape.TheVariants as shapes
use Rattle.afp_bitmap.specs.declared.table.Slot.{Slot}
use Rattle.afp_bitmap.specs.declared.judge.Walked.{Walked}
use Rattle.afp_bitmap.specs.declared.names.Named.{Named}
use Rattle.afp_bitmap.specs.declared.names.Names.{Names}
use Rattle.afp_bitmap.specs.declared.params.ParamFault.{ParamFault}
use Rattle.afp_bitmap.specs.declared.params.ParamFault.TheVariants as faults
use Rattle.afp_bitmap.specs.declared.volume.VolumeValues.{VolumeValues}
use Rattle.afp_bitmap.specs.declared.file.FileValues.{FileValues}
use Rattle.afp_bitmap.specs.declared.directory.DirValues.{DirValues}
use Rattle.afp_bitmap.specs.Bits.{is_asked}
use Rattle.afp_bitmap.specs.lemma.Spot.{Spot}

infixl 10 ◌>>=◌
-- the next step, unless this one met a fault
abbrev pub ◌>>=◌ : {A B : Type 0} → Result A ℕ → (A → Result B ℕ) → Result B ℕ
(Ok x) >>= f = f x
(Err at) >>= f = Err at

-- What a function returned, seen by view, is what reading gives, unless memory ran out.
abbrev pub Fails : {Y : Type 0} → ParamFault → Result Y ℕ → Type 0
Fails faults.Memory read = Unit {0}
Fails (faults.Bad at) read = read ≡ Err at

abbrev pub Gives : {X Y : Type 0} → (X → Y) → Result X ParamFault → Result Y ℕ → Type 0
Gives view (Ok x) read = read ≡ Ok (view x)
Gives view (Err e) read = Fails e read

-- how many bytes a field of that shape has in the fixed part
abbrev pub size_of : Shape → ℕ
size_of (shapes.Plain n) = n
size_of shapes.LongName = 2
size_of shapes.Utf8Name = 6

-- the size of the fixed part
unfoldable pub asked_size : ℕ → List Slot → ℕ
asked_size bits [] = 0
asked_size bits (s ∷ ss) = (if is_asked bits s.0 then size_of s.1 else 0) + asked_size bits ss

-- where the fixed part ended: whether there is a long name, where the UTF-8 name is to stand, the place, the bytes from there
pub record Walk : Type 0 where
  pub long_name : Bool
  pub utf8_name : Option ℕ
  pub place : ℕ
  pub rest : List ℕ

-- a UTF-8 name may stand there: where the names begin, or behind some long name and its pad
unfoldable pub may_stand : ℕ → Bool → ℕ → Bool
may_stand first false place = place == first
may_stand first true place = nat_le (first + 2) place && nat_le place (first + 256) && ((place - first) % 2 == 0)

-- what the code's walk shows
abbrev pub walk_of : Walked → Walk
walk_of w = record { long_name = w.long_name; utf8_name = w.utf8_name; place = w.spot.0; rest = w.spot.1 }

-- the bytes at the walk's place are a field of that shape
unfoldable pub stands : ℕ → Shape → Walk → Bool
stands first (shapes.Plain n) w = nat_le n (length w.rest)
stands first shapes.LongName w = nat_le 2 (length w.rest) && (big_number 2 w.rest == first)
stands first shapes.Utf8Name w =
    nat_le 6 (length w.rest) && may_stand first w.long_name (big_number 2 w.rest) && (big_number 4 (drop 2 w.rest) == 0)

-- the walk behind that field
unfoldable pub behind_field : Shape → Walk → Walk
behind_field (shapes.Plain n) w = record w { place = w.place + n; rest = drop n w.rest }
behind_field shapes.LongName w = record { long_name = true; utf8_name = w.utf8_name; place = w.place + 2; rest = drop 2 w.rest }
behind_field shapes.Utf8Name w =
    record { long_name = w.long_name; utf8_name = Some (big_number 2 w.rest); place = w.place + 6; rest = drop 6 w.rest }

-- one field of the fixed part, where it is asked
unfoldable pub step : ℕ → ℕ → Slot → Walk → Result Walk ℕ
step bits first s w =
    if is_asked bits s.0 then (if stands first s.1 w then Ok (behind_field s.1 w) else Err w.place) else Ok w

-- the fixed part
unfoldable pub walked : ℕ → ℕ → List Slot → Walk → Result Walk ℕ
walked bits first [] w = Ok w
walked bits first (s ∷ ss) w = step bits first s w >>= λ x. walked bits first ss x

-- the spot behind a byte of zero
unfoldable pub zero_at : ℕ → List ℕ → Result Spot ℕ
zero_at place [] = Err place
zero_at place (zero ∷ rest) = Ok (place + 1, rest)
zero_at place (suc b ∷ rest) = Err place

-- the spot behind the pad of so many bytes, which end at this spot
unfoldable pub pad_at : ℕ → Spot → Result Spot ℕ
pad_at size spot = if size % 2 == 0 then Ok spot else zero_at spot.0 spot.1

-- a long name of so many bytes and its pad end where the UTF-8 name is to stand
unfoldable pub leads_to : ℕ → ℕ → Option ℕ → Bool
leads_to place count None = true
leads_to place count (Some next) = place + (1 + count + (1 + count) % 2) == next

-- a long name, and the spot behind its pad
unfoldable pub long_name_at : Option ℕ → ℕ → List ℕ → Result (List ℕ × Spot) ℕ
long_name_at next place [] = Err place
long_name_at next place (count ∷ rest) =
    if nat_le count (length rest) && leads_to place count next
    then (pad_at (1 + count) (place + (1 + count), drop count rest) >>= λ spot. Ok (take count rest, spot))
    else Err place

-- a UTF-8 name of so many bytes behind its 6 bytes, and the spot behind its pad
unfoldable pub utf8_text_at : ℕ → Spot → Result (List ℕ × Spot) ℕ
utf8_text_at count spot =
    if nat_le count (length (drop 6 spot.1))
    then (pad_at (6 + count) (spot.0 + (6 + count), drop (6 + count) spot.1) >>= λ behind. Ok (take count (drop 6 spot.1), behind))
    else Err spot.0

-- a UTF-8 name, and the spot behind its pad
unfoldable pub utf8_name_at : Spot → Result (List ℕ × Spot) ℕ
utf8_name_at spot = if nat_le 6 (length spot.1) && (big_number 4 spot.1 == 0) then utf8_text_at (big_number 2 (drop 4 spot.1)) spot else Err spot.0

-- what the code's names show
abbrev pub name_of : Named → List ℕ × Spot
name_of n = (n.name.now, n.behind)

abbrev pub names_of : Names → List ℕ × List ℕ
names_of n = (n.long.now, n.utf8.now)

-- the long name, where one is to come
abbrev pub long_name_of : Walk → Result (List ℕ × Spot) ℕ
long_name_of w = if w.long_name then long_name_at w.utf8_name w.place w.rest else Ok ([], (w.place, w.rest))

-- the UTF-8 name, where one is to come
abbrev pub utf8_name_of : Option ℕ → Spot → Result (List ℕ × Spot) ℕ
utf8_name_of next spot = if is_some next then utf8_name_at spot else Ok ([], spot)

-- the asked names, up to the end
unfoldable pub names_at : Walk → Result (List ℕ × List ℕ) ℕ
names_at w = do
  long ← long_name_of w
  utf8 ← utf8_name_of w.utf8_name long.1
  if length utf8.1.1 == 0 then Ok (long.0, utf8.0) else Err utf8.1.0

-- the walk at the first byte
abbrev pub start : List ℕ → Walk
start bytes = record { long_name = false; utf8_name = None; place = 0; rest = bytes }

-- the names of a block, where all of it stands
unfoldable pub judged : ℕ → List Slot → List ℕ → Result (List ℕ × List ℕ) ℕ
judged bits table bytes = do
  w ← walked bits (asked_size bits table) table (start bytes)
  names_at w

-- the n bytes of a field where it is asked and they are there
unfoldable pub piece : ℕ → ℕ → ℕ → List ℕ → List ℕ
piece bits bit n rest = if is_asked bits bit && nat_le n (length rest) then take n rest else []

-- the bytes behind them
unfoldable pub behind : ℕ → ℕ → ℕ → List ℕ → List ℕ
behind bits bit n rest = if is_asked bits bit && nat_le n (length rest) then drop n rest else rest

-- the bytes for the Finder, or zeros where there are none
unfoldable pub finder_of : List ℕ → List ℕ
finder_of [] = replicate 32 0
finder_of (b ∷ bs) = b ∷ bs

-- the values in the fields of a block, with these names
unfoldable pub volume_from : ℕ → List ℕ → List ℕ → VolumeValues
volume_from bits r0 name =
    let r1 = behind bits 0 2 r0 in
    let r2 = behind bits 1 2 r1 in
    let r3 = behind bits 2 4 r2 in
    let r4 = behind bits 3 4 r3 in
    let r5 = behind bits 4 4 r4 in
    let r6 = behind bits 5 2 r5 in
    let r7 = behind bits 6 4 r6 in
    let r8 = behind bits 7 4 r7 in
    let r9 = behind bits 8 2 r8 in
    let r10 = behind bits 9 8 r9 in
    let r11 = behind bits 10 8 r10 in
    record {
      attributes = big_number 2 (piece bits 0 2 r0);
      signature = big_number 2 (piece bits 1 2 r1);
      created = cast_signed w32 (big_number 4 (piece bits 2 4 r2));
      modified = cast_signed w32 (big_number 4 (piece bits 3 4 r3));
      backup = cast_signed w32 (big_number 4 (piece bits 4 4 r4));
      volume = big_number 2 (piece bits 5 2 r5);
      free = big_number 4 (piece bits 6 4 r6);
      total = big_number 4 (piece bits 7 4 r7);
      name = name;
      ext_free = big_number 8 (piece bits 9 8 r9);
      ext_total = big_number 8 (piece bits 10 8 r10);
      block_size = big_number 4 (piece bits 11 4 r11);
    }

unfoldable pub file_from : ℕ → List ℕ → List ℕ → List ℕ → FileValues
file_from bits r0 long_name utf8_name =
    let r1 = behind bits 0 2 r0 in
    let r2 = behind bits 1 4 r1 in
    let r3 = behind bits 2 4 r2 in
    let r4 = behind bits 3 4 r3 in
    let r5 = behind bits 4 4 r4 in
    let r6 = behind bits 5 32 r5 in
    let r8 = behind bits 6 2 r6 in
    let r9 = behind bits 8 4 r8 in
    let r10 = behind bits 9 4 r9 in
    let r11 = behind bits 10 4 r10 in
    let r13 = behind bits 11 8 r11 in
    let r14 = behind bits 13 6 r13 in
    record {
      attributes = big_number 2 (piece bits 0 2 r0);
      parent = big_number 4 (piece bits 1 4 r1);
      created = cast_signed w32 (big_number 4 (piece bits 2 4 r2));
      modified = cast_signed w32 (big_number 4 (piece bits 3 4 r3));
      backup = cast_signed w32 (big_number 4 (piece bits 4 4 r4));
      finder = finder_of (piece bits 5 32 r5);
      long_name = long_name;
      id = big_number 4 (piece bits 8 4 r8);
      data_length = big_number 4 (piece bits 9 4 r9);
      resource_length = big_number 4 (piece bits 10 4 r10);
      ext_data_length = big_number 8 (piece bits 11 8 r11);
      utf8_name = utf8_name;
      ext_resource_length = big_number 8 (piece bits 14 8 r14);
    }

unfoldable pub dir_from : ℕ → List ℕ → List ℕ → List ℕ → DirValues
dir_from bits r0 long_name utf8_name =
    let r1 = behind bits 0 2 r0 in
    let r2 = behind bits 1 4 r1 in
    let r3 = behind bits 2 4 r2 in
    let r4 = behind bits 3 4 r3 in
    let r5 = behind bits 4 4 r4 in
    let r6 = behind bits 5 32 r5 in
    let r8 = behind bits 6 2 r6 in
    let r9 = behind bits 8 4 r8 in
    let r10 = behind bits 9 2 r9 in
    let r11 = behind bits 10 4 r10 in
    let r12 = behind bits 11 4 r11 in
    record {
      attributes = big_number 2 (piece bits 0 2 r0);
      parent = big_number 4 (piece bits 1 4 r1);
      created = cast_signed w32 (big_number 4 (piece bits 2 4 r2));
      modified = cast_signed w32 (big_number 4 (piece bits 3 4 r3));
      backup = cast_signed w32 (big_number 4 (piece bits 4 4 r4));
      finder = finder_of (piece bits 5 32 r5);
      long_name = long_name;
      id = big_number 4 (piece bits 8 4 r8);
      offspring = big_number 2 (piece bits 9 2 r9);
      owner = big_number 4 (piece bits 10 4 r10);
      group = big_number 4 (piece bits 11 4 r11);
      rights = big_number 4 (piece bits 12 4 r12);
      utf8_name = utf8_name;
    }
