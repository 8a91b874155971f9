-- A block of parameters is short: the names in it can be counted.
use Rattle.std.proofs.Common.{◌≡◌, ◌∙◌, ap, ℕ, ◌+◌, ◌<◌, ◌≤◌, ◌%◌, arith, inl, inr, List, [], ◌∷◌, ◌++◌, length, replicate}
use Rattle.std.specs.Prelude.{flat_map}
use Rattle.std.specs.List.{AllByRecursion, concat}
use Rattle.std.proofs.lemmas.Bool.{cases_Bool, MatchBool-at_true}
use Rattle.std.proofs.lemmas.List.{length-append, length-replicate}
use Rattle.std.proofs.lemmas.List.Folds.{concat-append}
use Rattle.afp_bitmap.proofs.Asked.{asked_no, asked_yes}
use Rattle.afp_bitmap.proofs.Blocks.{fits_rows}
use Rattle.afp_base.proofs.Numbers.{length-big_bytes}
use Rattle.byteorder.specs.Endian.{big_bytes}
use Rattle.std.specs.Int.{w32, cast_unsigned}
use Rattle.afp_bitmap.specs.Bits.{is_asked}
use Rattle.afp_bitmap.specs.Field.{Field, Number, Date, Finder, LongName, Utf8Name, IsCountable, IsTyped, blank, fixed_bytes, long_name_bytes, name_parts, pad_of, utf8_name_bytes}
use Rattle.afp_bitmap.specs.Params.{IsAnswer, RowFits, asked, asked_of, fixed_parts, name_size, params, size_of_fixed_part}
use Rattle.afp_bitmap.specs.Table.{FieldRow, dir_rows, file_rows, rows, volume_rows}
use Rattle.afp_bitmap.specs.declared.file.FileValues.{FileValues}
use Rattle.afp_bitmap.specs.declared.params.Values.{Values}
use Rattle.afp_bitmap.specs.declared.params.Values.TheVariants.{Dir, File, Volume}
use Rattle.afp_bitmap.specs.declared.volume.VolumeValues.{VolumeValues}

pad-short : (bytes : List ℕ) → length (pad_of bytes) ≤ 1
pad-short bytes = let h : length (pad_of bytes) ≡ length bytes % 2 = length-replicate (length bytes % 2) 0 in omega arith

pub two-parts : (a b : List ℕ) → length (concat (a ∷ b ∷ [])) ≡ length a + length b
two-parts a b = let h = length-append a (b ++ []) in let k = length-append b [] in omega (arith, h, k)

-- where a name that can be counted has no more bytes than this says of it
module _ (names : List ℕ → ℕ) (holds : (name : List ℕ) → length name < 65536 → length name ≤ names name) where
  -- the most bytes of a field and of the name that stands behind for it, and of all fields of a table
  abbrev most_bytes : Field → ℕ
  most_bytes (Number n x) = n
  most_bytes (Date z) = 4
  most_bytes (Finder info) = 32
  most_bytes (LongName name) = 260
  most_bytes (Utf8Name name) = 14 + names name

  abbrev pub most_of : List FieldRow → ℕ
  most_of [] = 0
  most_of (r ∷ rs) = most_bytes r.1 + most_of rs

  field-size : (place : ℕ) (f : Field) → IsCountable f → IsTyped f → length (fixed_bytes place f) + length (concat (name_parts f)) ≤ most_bytes f
  field-size place (Number n x) c t = let h = length-big_bytes n x in omega (arith, h)
  field-size place (Date z) c t = let h = length-big_bytes 4 (cast_unsigned w32 z) in omega (arith, h)
  field-size place (Finder info) c t = omega (arith, t)
  field-size place (LongName name) c t =
      let h = length-big_bytes 2 place in
      let k = two-parts (long_name_bytes name) (pad_of (long_name_bytes name)) in
      let p = pad-short (long_name_bytes name) in
      omega (arith, h, k, p, c)
  field-size place (Utf8Name name) c t =
      let h = length-append (big_bytes 2 place) (replicate 4 0) in
      let h2 = length-big_bytes 2 place in
      let k = two-parts (utf8_name_bytes name) (pad_of (utf8_name_bytes name)) in
      let u = length-append (replicate 4 0) (big_bytes 2 (length name) ++ name) in
      let v = length-append (big_bytes 2 (length name)) name in
      let w = length-big_bytes 2 (length name) in
      let p = pad-short (utf8_name_bytes name) in
      let most = holds name c in
      omega (arith, h, h2, k, u, v, w, p, most)

  -- the bytes of the parts of these fields
  abbrev bytes_of : ℕ → List Field → ℕ
  bytes_of place fs = length (concat (fixed_parts place fs)) + length (concat (flat_map name_parts fs))

  asked-size : (place bits : ℕ) (rs : List FieldRow) → AllByRecursion (RowFits bits) rs → AllByRecursion (λ r. IsTyped r.1) rs → bytes_of place (asked_of bits rs) ≤ most_of rs
  unfolding asked_of
  asked-size place bits [] fits typed = omega arith
  asked-size place bits (r ∷ rs) fits typed = elim (cases_Bool (is_asked bits r.0)) [
    | inl on ↦
        let fs = asked_of bits rs in
        let here = field-size place r.1 (MatchBool-at_true (IsCountable r.1) (r.1 ≡ blank r.1) on fits.0) typed.0 in
        let rest = asked-size (place + name_size r.1) bits rs fits.1 typed.1 in
        let front : length (concat (fixed_parts place (r.1 ∷ fs))) ≡ length (fixed_bytes place r.1) + length (concat (fixed_parts (place + name_size r.1) fs)) = length-append (fixed_bytes place r.1) (concat (fixed_parts (place + name_size r.1) fs)) in
        let back : length (concat (flat_map name_parts (r.1 ∷ fs))) ≡ length (concat (name_parts r.1)) + length (concat (flat_map name_parts fs)) = ap length (concat-append (name_parts r.1) (flat_map name_parts fs)) ∙ length-append (concat (name_parts r.1)) (concat (flat_map name_parts fs)) in
        let all : bytes_of place (asked_of bits (r ∷ rs)) ≡ bytes_of place (r.1 ∷ fs) = ap (bytes_of place) (asked_yes bits r rs on) in
        omega (arith, here, rest, front, back, all)
    | inr off ↦
        let rest = asked-size place bits rs fits.1 typed.1 in
        let all : bytes_of place (asked_of bits (r ∷ rs)) ≡ bytes_of place (asked_of bits rs) = ap (bytes_of place) (asked_no bits r rs off) in
        omega (arith, rest, all)
  ]

  -- the bytes of the answer, by the most bytes of its rows
  pub params-most : (kind bits : ℕ) (v : Values) → IsAnswer kind bits v → length (params bits v) ≤ most_of (rows v)
  params-most kind bits v h =
      let fs = asked bits v in
      let place = size_of_fixed_part fs in
      let both : length (params bits v) ≡ bytes_of place fs = ap length (concat-append (fixed_parts place fs) (flat_map name_parts fs)) ∙ length-append (concat (fixed_parts place fs)) (concat (flat_map name_parts fs)) in
      let size = asked-size place bits (rows v) (fits_rows bits v h.fits) h.typed in
      omega (arith, both, size)

-- by the count of a name
abbrev counted : List ℕ → ℕ
counted name = 65536

most-values : (v : Values) → most_of counted (λ name few. omega (arith, few)) (rows v) ≤ 65888
unfolding rows volume_rows file_rows dir_rows
most-values (Volume v) = omega arith
most-values (File v) = omega arith
most-values (Dir v) = omega arith

pub params-size : (kind bits : ℕ) (v : Values) → IsAnswer kind bits v → length (params bits v) ≤ 65888
params-size kind bits v h =
    let size = params-most counted (λ name few. omega (arith, few)) kind bits v h in
    let most = most-values v in
    omega (arith, size, most)

-- by its own bytes
params-by_names : (kind bits : ℕ) (v : Values) → IsAnswer kind bits v → length (params bits v) ≤ most_of length (λ name few. omega (arith, few)) (rows v)
params-by_names = params-most length (λ name few. omega (arith, few))

pub file-small : (bits : ℕ) (v : FileValues) → IsAnswer 1 bits (File v) → length v.utf8_name ≤ 255 → length (params bits (File v)) ≤ 608
unfolding rows file_rows
file-small bits v h short = let size = params-by_names 1 bits (File v) h in omega (arith, size, short)

pub volume-small : (bits : ℕ) (v : VolumeValues) → IsAnswer 0 bits (Volume v) → length (params bits (Volume v)) ≤ 306
unfolding rows volume_rows
volume-small bits v h = let size = params-by_names 0 bits (Volume v) h in omega (arith, size)
