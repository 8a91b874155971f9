-- The reply that tells of a node.
use Rattle.std.proofs.Common.{◌≡◌, ◌∙◌, ap, sym, ℕ, Bool, true, false, cond, List, ◌++◌, Option, Some, None}
use Rattle.std.specs.Prelude.{Result, Ok, option_map}
use Rattle.std.proofs.lemmas.List.{append_assoc, append-nil}
use Rattle.byteorder.specs.Endian.{big_bytes}
use Rattle.afp_base.specs.declared.code.Code.{Code}
use Rattle.afp_bitmap.specs.Params.{params}
use Rattle.afp_bitmap.specs.declared.directory.DirValues.{DirValues}
use Rattle.afp_bitmap.specs.declared.file.FileValues.{FileValues}
use Rattle.afp_bitmap.specs.declared.params.Values.{Values}
use Rattle.afp_bitmap.specs.declared.params.Values.TheVariants.{File, Dir}
use Rattle.afp_names.specs.Path.{PathValue}
use Rattle.afp_replies.specs.Bytes.{flag_of}
use Rattle.afp_replies.specs.Replies.{canonical_reply}
use Rattle.afp_replies.specs.declared.reply.Reply.TheVariants.{FileDirParams}
use Rattle.volume_spec.proofs.Walks.{row-there}
use Rattle.volume_spec.specs.Shared.{Opened, done_at}
use Rattle.volume_spec.specs.GetFileDirParms.{get_file_dir_parms_values}
use Rattle.volume_spec.specs.NodeValues.{bits_of, dir_values, file_values, node_values}
use Rattle.volume_spec.specs.SoundVolume.{IsSoundVolume, has_node}
use Rattle.volume_spec.specs.VolumeState.{Row, VolumeState}
use Rattle.volume_spec.specs.Walk.{found, has_directory, row_at}
use Rattle.volume_tree.specs.Shown.{IsRowOf}
use Rattle.volume_spec.proofs.SeenRows.{test-found}
use Rattle.volume_tree.proofs.Showing.{ids-differ}

five : (before a b c d p : List ℕ) → before ++ a ++ b ++ c ++ d ++ p ≡ before ++ (a ++ (b ++ (c ++ (d ++ p))))
five before a b c d p =
    append_assoc (before ++ a ++ b ++ c) d p ∙ append_assoc (before ++ a ++ b) c (d ++ p) ∙ append_assoc (before ++ a) b (c ++ (d ++ p)) ∙ append_assoc before a (b ++ (c ++ (d ++ p)))

by-kind : (dir : Bool) (a : DirValues) (b : FileValues) (file_bits dir_bits : ℕ) (before : List ℕ)
    → before ++ big_bytes 2 file_bits ++ big_bytes 2 dir_bits ++ big_bytes 1 (flag_of dir) ++ big_bytes 1 0 ++ params (cond dir dir_bits file_bits) (cond dir (Dir a) (File b))
    ≡ before ++ canonical_reply (FileDirParams file_bits dir_bits (cond dir (Dir a) (File b)))
by-kind true a b file_bits dir_bits before =
    five before (big_bytes 2 file_bits) (big_bytes 2 dir_bits) (big_bytes 1 (flag_of true)) (big_bytes 1 0) (params dir_bits (Dir a))
    ∙ ap (λ p. before ++ (big_bytes 2 file_bits ++ (big_bytes 2 dir_bits ++ (big_bytes 1 (flag_of true) ++ (big_bytes 1 0 ++ p))))) (sym (append-nil (params dir_bits (Dir a))))
by-kind false a b file_bits dir_bits before =
    five before (big_bytes 2 file_bits) (big_bytes 2 dir_bits) (big_bytes 1 (flag_of false)) (big_bytes 1 0) (params file_bits (File b))
    ∙ ap (λ p. before ++ (big_bytes 2 file_bits ++ (big_bytes 2 dir_bits ++ (big_bytes 1 (flag_of false) ++ (big_bytes 1 0 ++ p))))) (sym (append-nil (params file_bits (File b))))

-- the parts that are written, one behind the other, are the reply
pub node-reply : (rows : List Row) (user : ℕ) (opens : List Opened) (file_bits dir_bits flag : ℕ) (dir : Bool) (node row : Row) (before a b c d : List ℕ) → IsRowOf rows node row
    → a ≡ before ++ big_bytes 2 file_bits → b ≡ a ++ big_bytes 2 dir_bits → dir ≡ node.dir → flag ≡ flag_of dir → c ≡ b ++ big_bytes 1 flag → d ≡ c ++ big_bytes 1 0
    → d ++ params (bits_of file_bits dir_bits row) (node_values rows user opens file_bits dir_bits row) ≡ before ++ canonical_reply (FileDirParams file_bits dir_bits (node_values rows user opens file_bits dir_bits row))
unfolding node_values
node-reply rows user opens file_bits dir_bits flag dir node row before a b c d is at_a at_b dir_is flag_is at_c at_d =
    let flag_row : flag ≡ flag_of row.dir = flag_is ∙ ap flag_of (dir_is ∙ ap (λ (r : Row). r.dir) is.shown) in
    ap (λ l. l ++ params (bits_of file_bits dir_bits row) (cond row.dir (Dir (dir_values rows user dir_bits row)) (File (file_values opens file_bits row))))
    (at_d ∙ ap (λ l. l ++ big_bytes 1 0) (at_c ∙ (λ i. (at_b ∙ ap (λ l. l ++ big_bytes 2 dir_bits) at_a) i ++ big_bytes 1 (flag_row i))))
    ∙ by-kind row.dir (dir_values rows user dir_bits row) (file_values opens file_bits row) file_bits dir_bits before

-- the values that are told are those of the row that was found
pub told-values : (v : VolumeState) (user : ℕ) (opens : List Opened) (file_bits dir_bits dir id : ℕ) (path : PathValue) (row : Row) (values : Values) → found v.rows user dir path ≡ Ok id → row_at v.rows id ≡ Some row
    → get_file_dir_parms_values v user opens file_bits dir_bits dir path ≡ Some values → node_values v.rows user opens file_bits dir_bits row ≡ values
unfolding get_file_dir_parms_values
told-values v user opens file_bits dir_bits dir id path row values leads there told =
    let same : Some (node_values v.rows user opens file_bits dir_bits row) ≡ Some values =
    sym (ap (λ (r : Result ℕ Code). done_at r None (λ id. option_map (node_values v.rows user opens file_bits dir_bits) (row_at v.rows id))) leads
    ∙ ap (λ (o : Option Row). option_map (node_values v.rows user opens file_bits dir_bits) o) there) ∙ told in
    cc

-- what a node that is there says of itself
pub directory-is : (v : VolumeState) (id : ℕ) (node : Row) (dir : Bool) → IsSoundVolume v → has_node v.rows id ≡ true → ((row : Row) → row_at v.rows id ≡ Some row → IsRowOf v.rows node row) → dir ≡ node.dir
    → dir ≡ has_directory v.rows id
directory-is v id node dir s there is dir_is =
    let row = row-there v.rows id there in
    dir_is ∙ ap (λ (r : Row). r.dir) (is row.0 row.1).shown ∙ sym (test-found v.rows id (λ (r : Row). r.dir) row.0 (ids-differ v s) row.1)
