-- Blocks of parameters, and so entries, are even in size.
use Rattle.std.proofs.Common.{◌≡◌, ℕ, ◌+◌, ◌%◌, Bool, true, false, List, [], ◌∷◌, ◌++◌, length, replicate, refl, ap, arith, length-append, inl, inr}
use Rattle.std.proofs.lemmas.Bool.{cases_Bool}
use Rattle.std.proofs.lemmas.List.{append-nil, length-replicate}
use Rattle.std.specs.List.{flat_map, concat, AllByRecursion}
use Rattle.std.proofs.lemmas.List.Folds.{concat-append}
use Rattle.byteorder.specs.Endian.{big_bytes}
use Rattle.afp_bitmap.specs.declared.params.Values.{Values}
use Rattle.afp_bitmap.specs.declared.params.Values.TheVariants as kinds
use Rattle.afp_bitmap.specs.Bits.{is_asked}
use Rattle.afp_bitmap.specs.Field.{Field, Number, Date, Finder, LongName, Utf8Name, fixed_bytes, name_parts, pad_of, long_name_bytes, utf8_name_bytes, IsTyped}
use Rattle.afp_bitmap.specs.Params.{asked_of, fixed_parts, size_of_fixed_part, name_size, params, IsAnswer}
use Rattle.afp_bitmap.specs.Table.{FieldRow, rows, volume_rows, file_rows, dir_rows}
use Rattle.afp_replies.specs.declared.list.ListEntry.{ListEntry}
use Rattle.afp_replies.specs.Bytes.{flag_of, width}
use Rattle.afp_replies.specs.Entry.{is_dir, bits_for, kind_for, node_params, pad_count, head_size, entry_bytes, FitsEntry}
use Rattle.afp_replies.proofs.Entries.{row_size}
use Rattle.afp_base.proofs.Numbers.{length-big_bytes}

abbrev EvenField : Field → Type 0
EvenField (Number n x) = n % 2 ≡ 0
EvenField (Finder info) = length info % 2 ≡ 0
EvenField f = Unit {0}

even_fixed : (place : ℕ) (f : Field) → EvenField f → length (fixed_bytes place f) % 2 ≡ 0
even_fixed place (Number n x) h = rw (length-big_bytes n x) h
even_fixed place (Date z) h = refl
even_fixed place (Finder info) h = h
even_fixed place (LongName name) h = refl
even_fixed place (Utf8Name name) h =
    let both : length (big_bytes 2 place ++ replicate 4 0) ≡ length (big_bytes 2 place) + length (replicate {A = ℕ} 4 0) = length-append (big_bytes 2 place) (replicate {A = ℕ} 4 0) in
    let two : length (big_bytes 2 place) ≡ 2 = length-big_bytes 2 place in
    let four : length (replicate {A = ℕ} 4 0) ≡ 4 = refl in
    omega arith

even_padded : (b : List ℕ) → length (b ++ (pad_of b ++ [])) % 2 ≡ 0
even_padded b =
    let both : length (b ++ (pad_of b ++ [])) ≡ length b + length (pad_of b ++ []) = length-append b (pad_of b ++ []) in
    let pad : length (pad_of b ++ []) ≡ length (pad_of b) = ap (length {A = ℕ}) (append-nil (pad_of b)) in
    let size : length (pad_of b) ≡ length b % 2 = length-replicate {A = ℕ} (length b % 2) 0 in
    omega arith

even_names : (f : Field) → length (concat (name_parts f)) % 2 ≡ 0
even_names (Number n x) = refl
even_names (Date z) = refl
even_names (Finder info) = refl
even_names (LongName name) = even_padded (long_name_bytes name)
even_names (Utf8Name name) = even_padded (utf8_name_bytes name)

even_both : (xs ys : List (List ℕ)) → length (concat xs) % 2 ≡ 0 → length (concat ys) % 2 ≡ 0 → length (concat (xs ++ ys)) % 2 ≡ 0
even_both xs ys a b =
    let whole : length (concat (xs ++ ys)) ≡ length (concat xs ++ concat ys) = ap (length {A = ℕ}) (concat-append xs ys) in
    let both : length (concat xs ++ concat ys) ≡ length (concat xs) + length (concat ys) = length-append (concat xs) (concat ys) in
    omega arith

even_fixed_parts : (place : ℕ) (fs : List Field) → AllByRecursion EvenField fs → length (concat (fixed_parts place fs)) % 2 ≡ 0
even_fixed_parts place [] h = refl
even_fixed_parts place (f ∷ fs) h =
    let rest : List ℕ = concat (fixed_parts (place + name_size f) fs) in
    let both : length (fixed_bytes place f ++ rest) ≡ length (fixed_bytes place f) + length rest = length-append (fixed_bytes place f) rest in
    let a : length (fixed_bytes place f) % 2 ≡ 0 = even_fixed place f h.0 in
    let b : length rest % 2 ≡ 0 = even_fixed_parts (place + name_size f) fs h.1 in
    omega arith

even_all_names : (fs : List Field) → length (concat (flat_map name_parts fs)) % 2 ≡ 0
even_all_names [] = refl
even_all_names (f ∷ fs) = even_both (name_parts f) (flat_map name_parts fs) (even_names f) (even_all_names fs)

even_asked : (bits : ℕ) (rs : List FieldRow) → AllByRecursion (λ r. EvenField r.1) rs → AllByRecursion EvenField (asked_of bits rs)
unfolding asked_of
even_asked bits [] h = tt
even_asked bits (r ∷ rs) h =
    elim (cases_Bool (is_asked bits r.0)) [
      | inl on ↦ rw on (h.0, even_asked bits rs h.1)
      | inr off ↦ rw off (even_asked bits rs h.1)
    ]

sized : (info : List ℕ) → length info ≡ 32 → length info % 2 ≡ 0
sized info e = rw e refl

even_rows : (v : Values) → AllByRecursion (λ r. IsTyped r.1) (rows v) → AllByRecursion (λ r. EvenField r.1) (rows v)
unfolding rows volume_rows file_rows dir_rows
even_rows (kinds.Volume v) h = (refl, (refl, (tt, (tt, (tt, (refl, (refl, (refl, (tt, (refl, (refl, (refl, tt))))))))))))
even_rows (kinds.File v) h = (refl, (refl, (tt, (tt, (tt, (sized v.finder h.1.1.1.1.1.0, (tt, (refl, (refl, (refl, (refl, (tt, (refl, tt)))))))))))))
even_rows (kinds.Dir v) h = (refl, (refl, (tt, (tt, (tt, (sized v.finder h.1.1.1.1.1.0, (tt, (refl, (refl, (refl, (refl, (refl, (tt, tt)))))))))))))

even_params : (kind bits : ℕ) (v : Values) → IsAnswer kind bits v → length (params bits v) % 2 ≡ 0
even_params kind bits v a =
    let fs : List Field = asked_of bits (rows v) in
    even_both (fixed_parts (size_of_fixed_part fs) fs) (flat_map name_parts fs)
    (even_fixed_parts (size_of_fixed_part fs) fs (even_asked bits (rows v) (even_rows v a.typed))) (even_all_names fs)

even_head : (wide : Bool) → head_size wide % 2 ≡ 0
even_head true = refl
even_head false = refl

pub even_entry : (wide : Bool) (fb db : ℕ) (e : ListEntry) → FitsEntry wide fb db e → length (entry_bytes wide fb db e) % 2 ≡ 0
even_entry wide fb db e f =
    let ps : List ℕ = node_params fb db e.values in
    let size : length (entry_bytes wide fb db e) ≡ head_size wide + length ps =
    row_size (width wide) (pad_count wide) (head_size wide + length ps) (flag_of (is_dir e.values)) (replicate (pad_count wide) 0) ps (length-replicate {A = ℕ} (pad_count wide) 0) in
    let a : head_size wide % 2 ≡ 0 = even_head wide in
    let b : length ps % 2 ≡ 0 = even_params (kind_for (is_dir e.values)) (bits_for (is_dir e.values) fb db) e.values f.answer in
    omega arith
