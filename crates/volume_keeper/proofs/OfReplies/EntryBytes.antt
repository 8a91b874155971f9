-- An entry is put: its size, whether it can stay, and its bytes.
use Rattle.std.proofs.Common.{◌≡◌, ◌∙◌, ap, refl, ℕ, zero, suc, ◌+◌, ◌-◌, ◌^◌, ◌<◌, ◌≤◌, nat_le, min, arith, Bool, true, false, cond, List, ◌++◌, length, take, drop, replicate}
use Rattle.std.proofs.lemmas.Bool.{and_parts, leb-true}
use Rattle.std.proofs.Math.Seq.{take-append_seam, drop-append-add}
use Rattle.std.proofs.lemmas.List.{append_assoc, length-append}
use Rattle.byteorder.specs.Endian.{big_bytes}
use Rattle.afp_bitmap.specs.Params.{params}
use Rattle.afp_bitmap.specs.declared.directory.DirValues.{DirValues}
use Rattle.afp_bitmap.specs.declared.file.FileValues.{FileValues}
use Rattle.afp_bitmap.specs.declared.params.Values.TheVariants.{File, Dir}
use Rattle.afp_replies.specs.Bytes.{flag_of, width}
use Rattle.afp_replies.specs.Entry.{pad_count, entry_bytes}
use Rattle.afp_serial.specs.ListReply.{list_entry}
use Rattle.volume_spec.specs.Shared.{Opened}
use Rattle.afp_base.specs.Limits.{payload_limit}
use Rattle.volume_spec.specs.Enumerate.{ListAsked, entry_head, entry_size, longest_entry}
use Rattle.volume_spec.specs.NodeValues.{bits_of, dir_values, file_values, node_values}
use Rattle.volume_spec.specs.VolumeState.{Row}
use Rattle.volume_keeper.specs.replies.lemma.Filling.{can_follow}

drop-zeros : (n : ℕ) (b : List ℕ) → drop n (replicate n 0 ++ b) ≡ b
drop-zeros zero b = refl
drop-zeros (suc n) b = drop-zeros n b

-- zeros in a list are written over
pub patched : (old rest number new : List ℕ) (n : ℕ) → new ≡ old ++ (replicate n 0 ++ rest) → take (length old) new ++ number ++ drop (length old + n) new ≡ old ++ (number ++ rest)
patched old rest number new n is =
    ap (λ l. take (length old) l ++ number ++ drop (length old + n) l) is
    ∙ (λ i. take-append_seam old (replicate n 0 ++ rest) i ++ number ++ (drop-append-add old (replicate n 0 ++ rest) n ∙ drop-zeros n rest) i)
    ∙ append_assoc old number rest

four : (old a b c d : List ℕ) → old ++ a ++ b ++ c ++ d ≡ old ++ (a ++ (b ++ (c ++ d)))
four old a b c d = append_assoc (old ++ a ++ b) c d ∙ append_assoc (old ++ a) b (c ++ d) ∙ append_assoc old a (b ++ (c ++ d))

-- the body of an entry, behind what stood there
abbrev pub with_body : Bool → Bool → List ℕ → List ℕ → List ℕ
with_body wide dir old block = old ++ replicate (width wide) 0 ++ big_bytes 1 (flag_of dir) ++ replicate (pad_count wide) 0 ++ block

body-length : (wide dir : Bool) (old new block : List ℕ) → new ≡ with_body wide dir old block → length new ≡ length old + (entry_head wide + length block)
body-length wide dir old new block is =
    ap length (is ∙ four old (replicate (width wide) 0) (big_bytes 1 (flag_of dir)) (replicate (pad_count wide) 0) block) ∙ length-append old _ ∙ ap (λ n. length old + n) (head wide)
  where
    head : (wide : Bool) → length (replicate (width wide) 0 ++ (big_bytes 1 (flag_of dir) ++ (replicate (pad_count wide) 0 ++ block))) ≡ entry_head wide + length block
    head true = omega arith
    head false = omega arith

by-kind : (wide dir : Bool) (a : DirValues) (b : FileValues) (file_bits dir_bits size : ℕ) (old new : List ℕ) → new ≡ with_body wide dir old (params (cond dir dir_bits file_bits) (cond dir (Dir a) (File b)))
    → size ≡ entry_head wide + length (params (cond dir dir_bits file_bits) (cond dir (Dir a) (File b)))
    → take (length old) new ++ big_bytes (width wide) size ++ drop (length old + width wide) new ≡ old ++ entry_bytes wide file_bits dir_bits (record { values = cond dir (Dir a) (File b) })
by-kind wide dir a b file_bits dir_bits size old new is size_is =
    let block : List ℕ = params (cond dir dir_bits file_bits) (cond dir (Dir a) (File b)) in
    patched old (big_bytes 1 (flag_of dir) ++ (replicate (pad_count wide) 0 ++ block)) (big_bytes (width wide) size) new (width wide)
    (is ∙ four old (replicate (width wide) 0) (big_bytes 1 (flag_of dir)) (replicate (pad_count wide) 0) block)
    ∙ ap (λ n. old ++ (big_bytes (width wide) n ++ (big_bytes 1 (flag_of dir) ++ (replicate (pad_count wide) 0 ++ block)))) size_is
    ∙ ap (λ l. old ++ l) (same wide dir)
  where
    same : (wide dir : Bool) → big_bytes (width wide) (entry_head wide + length (params (cond dir dir_bits file_bits) (cond dir (Dir a) (File b)))) ++ (big_bytes 1 (flag_of dir) ++ (replicate (pad_count wide) 0 ++ params (cond dir dir_bits file_bits) (cond dir (Dir a) (File b))))
        ≡ entry_bytes wide file_bits dir_bits (record { values = cond dir (Dir a) (File b) })
    same true true = refl
    same true false = refl
    same false true = refl
    same false false = refl

module _ (rows : List Row) (opens : List Opened) (asked : ListAsked) (row : Row) (old new : List ℕ) (is : new ≡ with_body asked.wide row.dir old (params (bits_of asked.file_bits asked.dir_bits row) (node_values rows asked.user opens asked.file_bits asked.dir_bits row))) where
  pub body-size : length new ≡ length old + entry_size rows opens asked row
  unfolding entry_size
  body-size = body-length asked.wide row.dir old new (params (bits_of asked.file_bits asked.dir_bits row) (node_values rows asked.user opens asked.file_bits asked.dir_bits row)) is

  pub body-front : take (length old) new ≡ old
  body-front =
      let block : List ℕ = params (bits_of asked.file_bits asked.dir_bits row) (node_values rows asked.user opens asked.file_bits asked.dir_bits row) in
      ap (λ l. take (length old) l) (is ∙ four old (replicate (width asked.wide) 0) (big_bytes 1 (flag_of row.dir)) (replicate (pad_count asked.wide) 0) block)
      ∙ take-append_seam old (replicate (width asked.wide) 0 ++ (big_bytes 1 (flag_of row.dir) ++ (replicate (pad_count asked.wide) 0 ++ block)))

  pub body-room : length old + width asked.wide ≤ length new
  unfolding entry_size
  body-room = let size = body-size in room asked.wide (length old) (length new) (length (params (bits_of asked.file_bits asked.dir_bits row) (node_values rows asked.user opens asked.file_bits asked.dir_bits row))) size
    where
      room : (wide : Bool) (a b n : ℕ) → b ≡ a + (entry_head wide + n) → a + width wide ≤ b
      room true a b n h = omega arith
      room false a b n h = omega arith

  pub entry-put : (size : ℕ) → size ≡ entry_size rows opens asked row
      → take (length old) new ++ big_bytes (width asked.wide) size ++ drop (length old + width asked.wide) new ≡ old ++ entry_bytes asked.wide asked.file_bits asked.dir_bits (list_entry rows opens asked row)
  unfolding entry_size node_values
  entry-put size size_is = by-kind asked.wide row.dir (dir_values rows asked.user asked.dir_bits row) (file_values opens asked.file_bits row) asked.file_bits asked.dir_bits size old new is size_is

-- the size is what was put
pub size-is : (a b : List ℕ) (before after : List ℕ) (n : ℕ) → a ≡ before → b ≡ after → length after ≡ length before + n → length b - length a ≡ n
size-is a b before after n a_is b_is size = let la : length a ≡ length before = ap length a_is in let lb : length b ≡ length after = ap length b_is in omega arith

-- the length of an entry that can follow can be told
pub length-told : (asked : ListAsked) (used size : ℕ) → can_follow asked used size ≡ true → size < 256 ^ width asked.wide
length-told asked used size can =
    by asked.wide (leb-true size (longest_entry asked.wide) (and_parts (nat_le size (longest_entry asked.wide)) (nat_le (used + size) (min asked.size payload_limit)) can).0)
  where
    by : (wide : Bool) → size ≤ longest_entry wide → size < 256 ^ width wide
    by true small = omega arith
    by false small = omega arith
