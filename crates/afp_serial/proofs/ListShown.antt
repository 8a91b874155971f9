-- A list has the sizes by which it is cut, and is shown.
use Rattle.std.proofs.Common.{◌==◌, ◌≡◌, ◌∙◌, ap, sym, refl, ℕ, suc, ◌+◌, ◌<◌, ◌≤◌, ◌^◌, arith, Bool, true, false, ◌&&◌, cond, List, [], ◌∷◌, ◌++◌, length, map, replicate, min, subst}
use Rattle.std.specs.Prelude.{bit_and, nat_le, sum_by}
use Rattle.std.specs.List.{AllByRecursion, Contains, concat, list_all}
use Rattle.std.proofs.lemmas.Bool.{and_parts, eqb-true, leb-true, not-false}
use Rattle.std.proofs.lemmas.List.{length-append, length-map}
use Rattle.std.proofs.lemmas.List.Sums.{sum_by-cons}
use Rattle.afp_base.specs.Limits.{payload_limit}
use Rattle.byteorder.specs.Endian.{big_bytes}
use Rattle.afp_base.specs.declared.code.Code.TheVariants.{BitmapErr}
use Rattle.afp_bitmap.specs.Bits.{file_mask, dir_mask, is_outside}
use Rattle.afp_bitmap.specs.Params.{params, IsAnswer}
use Rattle.afp_bitmap.specs.declared.directory.DirValues.{DirValues}
use Rattle.afp_bitmap.specs.declared.file.FileValues.{FileValues}
use Rattle.afp_bitmap.specs.declared.params.Values.{Values}
use Rattle.afp_bitmap.specs.declared.params.Values.TheVariants.{Dir, File}
use Rattle.afp_replies.specs.Bytes.{flag_of, width}
use Rattle.afp_replies.specs.Entry.{is_dir, bits_for, kind_for, node_params, pad_count, head_size, entry_bytes, FitsEntry}
use Rattle.afp_serial.specs.ListReply.{list_entry, list_reply, ListHasItsSize, ListIsShown}
use Rattle.volume_spec.proofs.Counted.{entries-are-there}
use Rattle.volume_spec.proofs.ListReplies.{entries-are-asked, entries-fit}
use Rattle.volume_spec.proofs.Ordered.{is-here, is-later}
use Rattle.volume_spec.proofs.Refusals.{none-first}
use Rattle.volume_spec.proofs.ToldValues.{node-told}
use Rattle.volume_spec.specs.Shared.{Opened}
use Rattle.volume_spec.specs.Enumerate.{ListAsked, list_head, entry_head, longest_entry, entry_size, fits_reply, entries, enumerate_refusal}
use Rattle.volume_spec.specs.NodeValues.{bits_of, node_values, dir_values, file_values}
use Rattle.volume_spec.specs.SoundVolume.{IsSoundVolume}
use Rattle.volume_spec.specs.TypedVolume.{is_typed_volume}
use Rattle.volume_spec.specs.VolumeState.{Row, VolumeState}

-- sizes

head-length : (wide : Bool) (n flag : ℕ) (block : List ℕ) → length (big_bytes (width wide) n ++ (flag ∷ (replicate (pad_count wide) 0 ++ block))) ≡ entry_head wide + length block
head-length true n flag block = omega arith
head-length false n flag block = omega arith

bits-are : (d : Bool) (a : DirValues) (b : FileValues) (file_bits dir_bits : ℕ) → bits_for (is_dir (cond d (Dir a) (File b))) file_bits dir_bits ≡ cond d dir_bits file_bits
bits-are true a b file_bits dir_bits = refl
bits-are false a b file_bits dir_bits = refl

params-are : (rows : List Row) (user : ℕ) (opens : List Opened) (file_bits dir_bits : ℕ) (row : Row)
    → node_params file_bits dir_bits (node_values rows user opens file_bits dir_bits row) ≡ params (bits_of file_bits dir_bits row) (node_values rows user opens file_bits dir_bits row)
unfolding node_values
params-are rows user opens file_bits dir_bits row =
    ap (λ bits. params bits (cond row.dir (Dir (dir_values rows user dir_bits row)) (File (file_values opens file_bits row)))) (bits-are row.dir (dir_values rows user dir_bits row) (file_values opens file_bits row) file_bits dir_bits)

entry-length : (rows : List Row) (opens : List Opened) (asked : ListAsked) (row : Row) → length (entry_bytes asked.wide asked.file_bits asked.dir_bits (list_entry rows opens asked row)) ≡ entry_size rows opens asked row
unfolding entry_size
entry-length rows opens asked row =
    let v : Values = node_values rows asked.user opens asked.file_bits asked.dir_bits row in
    head-length asked.wide (head_size asked.wide + length (node_params asked.file_bits asked.dir_bits v)) (flag_of (is_dir v)) (node_params asked.file_bits asked.dir_bits v)
    ∙ ap (λ block. entry_head asked.wide + length block) (params-are rows asked.user opens asked.file_bits asked.dir_bits row)

entries-length : (rows : List Row) (opens : List Opened) (asked : ListAsked) (nodes : List Row)
    → length (concat (map (entry_bytes asked.wide asked.file_bits asked.dir_bits) (map (list_entry rows opens asked) nodes))) ≡ sum_by (entry_size rows opens asked) nodes
entries-length rows opens asked [] = refl
entries-length rows opens asked (row ∷ nodes) =
    length-append (entry_bytes asked.wide asked.file_bits asked.dir_bits (list_entry rows opens asked row)) (concat (map (entry_bytes asked.wide asked.file_bits asked.dir_bits) (map (list_entry rows opens asked) nodes)))
    ∙ (λ i. entry-length rows opens asked row i + entries-length rows opens asked nodes i)
    ∙ sym (sum_by-cons (entry_size rows opens asked) row nodes)

pub list-has-its-size : ListHasItsSize
unfolding list_reply
list-has-its-size rows opens asked nodes =
    let rest = entries-length rows opens asked nodes in
    six (length (concat (map (entry_bytes asked.wide asked.file_bits asked.dir_bits) (map (list_entry rows opens asked) nodes)))) ∙ ap (λ n. 6 + n) rest
  where
    six : (n : ℕ) → suc (suc (suc (suc (suc (suc n))))) ≡ 6 + n
    six n = omega arith

-- what is shown

pub node-answer : (d : Bool) (a : DirValues) (b : FileValues) (file_bits dir_bits : ℕ) → IsAnswer (cond d 2 1) (cond d dir_bits file_bits) (cond d (Dir a) (File b))
    → IsAnswer (kind_for (is_dir (cond d (Dir a) (File b)))) (bits_for (is_dir (cond d (Dir a) (File b))) file_bits dir_bits) (cond d (Dir a) (File b))
node-answer true a b file_bits dir_bits h = h
node-answer false a b file_bits dir_bits h = h

small-entry : (wide : Bool) (n size : ℕ) → entry_head wide + n ≡ size → nat_le size (longest_entry wide) ≡ true → head_size wide + n < 256 ^ width wide
small-entry true n size is h = let k = leb-true size 65535 h in omega arith
small-entry false n size is h = let k = leb-true size 255 h in omega arith

one-fits : (v : VolumeState) (opens : List Opened) (asked : ListAsked) (id : ℕ) (row : Row) → IsSoundVolume v → is_typed_volume v ≡ true → Contains (entries v.rows opens asked id) row
    → nat_le (entry_size v.rows opens asked row) (longest_entry asked.wide) ≡ true → FitsEntry asked.wide asked.file_bits asked.dir_bits (list_entry v.rows opens asked row)
unfolding node_values entry_size
one-fits v opens asked id row s t there short = record {
  answer = node-answer row.dir (dir_values v.rows asked.user asked.dir_bits row) (file_values opens asked.file_bits row) asked.file_bits asked.dir_bits
      (node-told v asked.user opens asked.file_bits asked.dir_bits row.id row (entries-are-there v opens asked id row s there) s t);
  small = small-entry asked.wide (length (node_params asked.file_bits asked.dir_bits (node_values v.rows asked.user opens asked.file_bits asked.dir_bits row))) (entry_size v.rows opens asked row)
      (ap (λ block. entry_head asked.wide + length block) (params-are v.rows asked.user opens asked.file_bits asked.dir_bits row)) short;
}

all-fit : (v : VolumeState) (opens : List Opened) (asked : ListAsked) (nodes : List Row) → list_all (λ node. nat_le (entry_size v.rows opens asked node) (longest_entry asked.wide)) nodes ≡ true
    → ((row : Row) → Contains nodes row → nat_le (entry_size v.rows opens asked row) (longest_entry asked.wide) ≡ true → FitsEntry asked.wide asked.file_bits asked.dir_bits (list_entry v.rows opens asked row))
    → AllByRecursion (FitsEntry asked.wide asked.file_bits asked.dir_bits) (map (list_entry v.rows opens asked) nodes)
all-fit v opens asked [] short each = tt
all-fit v opens asked (row ∷ nodes) short each =
    let e = and_parts (nat_le (entry_size v.rows opens asked row) (longest_entry asked.wide)) (list_all (λ node. nat_le (entry_size v.rows opens asked node) (longest_entry asked.wide)) nodes) short in
    (each row (is-here row nodes) e.0, all-fit v opens asked nodes e.1 (λ other there fits. each other (is-later row other nodes there) fits))

pub within : (mask bits : ℕ) → is_outside mask bits ≡ false → bit_and bits mask ≡ bits
within mask bits h = eqb-true (bit_and bits mask) bits (not-false (bit_and bits mask == bits) h)

pub list-is-shown : ListIsShown
unfolding list_reply enumerate_refusal fits_reply
list-is-shown v opens asked dir id path few passes is s t =
    let nodes : List Row = entries v.rows opens asked id in
    let first = none-first ((is_outside file_mask asked.file_bits, BitmapErr) ∷ (is_outside dir_mask asked.dir_bits, BitmapErr) ∷ ((asked.file_bits == 0) && (asked.dir_bits == 0), BitmapErr) ∷ []) _ passes in
    let fits = and_parts (nat_le (list_head + sum_by (entry_size v.rows opens asked) nodes) (min asked.size payload_limit)) (list_all (λ node. nat_le (entry_size v.rows opens asked node) (longest_entry asked.wide)) nodes)
    (entries-fit v opens asked dir id path passes is) in
    let count : length nodes ≤ asked.count = entries-are-asked v.rows opens asked id in (
      record {
        few = subst (λ n. n < 65536) (sym (length-map nodes (list_entry v.rows opens asked))) (below (length nodes) asked.count count few);
        file = within file_mask asked.file_bits first.0.0;
        dir = within dir_mask asked.dir_bits first.0.1.0;
        each = all-fit v opens asked nodes fits.1 (λ row there short. one-fits v opens asked id row s t there short);
      },
      subst (λ n. n ≤ min asked.size payload_limit) (sym (list-has-its-size v.rows opens asked nodes)) (leb-true (list_head + sum_by (entry_size v.rows opens asked) nodes) (min asked.size payload_limit) fits.0),
    )
  where
    below : (a b : ℕ) → a ≤ b → b < 65536 → a < 65536
    below a b h k = omega arith
