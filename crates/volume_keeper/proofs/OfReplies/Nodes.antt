-- What is told of a node that a volume has.
use Rattle.std.proofs.Common.{◌≡◌, ◌∙◌, ap, sym, ℕ, true, false, cond, List, ◌++◌}
use Rattle.std.specs.Prelude.{Result, Ok, Err, OnOk}
use Rattle.afp_bitmap.specs.Params.{params}
use Rattle.afp_bitmap.specs.declared.params.Values.TheVariants.{File, Dir}
use Rattle.volume_spec.specs.Shared.{Opened}
use Rattle.volume_spec.specs.NodeValues.{bits_of, dir_values, file_values, node_values}
use Rattle.volume_spec.specs.VolumeState.{Row}
use Rattle.volume_keeper.proofs.OfReplies.Limits.{whole-is}
use Rattle.volume_tree.specs.Shown.{IsRowOf}
use Rattle.volume_keeper.specs.replies.lemma.Told.{whole}

-- what is told of a directory and of a file that was found
pub told-dir : (rows : List Row) (user : ℕ) (opens : List Opened) (file_bits dir_bits : ℕ) (node row : Row) (before : List ℕ) → IsRowOf rows node row → node.dir ≡ true
    → before ++ params dir_bits (Dir (dir_values rows user dir_bits node)) ≡ before ++ params (bits_of file_bits dir_bits row) (node_values rows user opens file_bits dir_bits row)
unfolding node_values dir_values
told-dir rows user opens file_bits dir_bits node row before is dir =
    let here : row.dir ≡ true = sym (ap (λ (r : Row). r.dir) is.shown) ∙ dir in
    ap (λ (r : Row). before ++ params dir_bits (Dir (dir_values rows user dir_bits r))) is.shown
    ∙ ap (λ d. before ++ params (cond d dir_bits file_bits) (cond d (Dir (dir_values rows user dir_bits row)) (File (file_values opens file_bits row)))) (sym here)

pub told-file : (rows : List Row) (user : ℕ) (opens : List Opened) (file_bits dir_bits : ℕ) (node row : Row) (before : List ℕ) → IsRowOf rows node row → node.dir ≡ false
    → before ++ params file_bits (File (file_values opens file_bits (whole rows node))) ≡ before ++ params (bits_of file_bits dir_bits row) (node_values rows user opens file_bits dir_bits row)
unfolding node_values
told-file rows user opens file_bits dir_bits node row before is file =
    let here : row.dir ≡ false = sym (ap (λ (r : Row). r.dir) is.shown) ∙ file in
    ap (λ (r : Row). before ++ params file_bits (File (file_values opens file_bits r))) (whole-is rows node row is.found is.shown here)
    ∙ ap (λ d. before ++ params (cond d dir_bits file_bits) (cond d (Dir (dir_values rows user dir_bits row)) (File (file_values opens file_bits row)))) (sym here)

-- what holds where a result is Ok, for what follows from it
pub on-ok : {A E : Type 0} {P Q : Type 0} (r : Result A E) → OnOk r P → (P → Q) → OnOk r Q
on-ok (Ok x) p f = f p
on-ok (Err e) p f = tt
