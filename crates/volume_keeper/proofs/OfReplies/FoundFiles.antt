-- The file that is found.
use Rattle.std.proofs.Common.{◌≡◌, ◌∙◌, ap, sym, ℕ, ◌==◌, Bool, true, not, List, Some, None, if◌then◌else◌}
use Rattle.std.specs.Prelude.{Result, Ok, bit_and, option_map}
use Rattle.std.proofs.lemmas.Bool.{eqb-true}
use Rattle.afp_base.specs.declared.code.Code.{Code}
use Rattle.afp_names.specs.Path.{PathValue}
use Rattle.volume_spec.proofs.SeenRows.{file-found, test-found}
use Rattle.volume_spec.proofs.Walks.{row-there}
use Rattle.volume_spec.specs.Shared.{done_at, has_attribute}
use Rattle.volume_spec.specs.OpenFork.{file_of, open_fork_file}
use Rattle.volume_spec.specs.SoundVolume.{IsSoundVolume, has_file, has_node}
use Rattle.volume_spec.specs.VolumeState.{Row, VolumeState}
use Rattle.volume_spec.specs.Walk.{found, row_at}
use Rattle.volume_tree.specs.Shown.{IsRowOf}
use Rattle.volume_tree.proofs.Showing.{ids-differ}
use Rattle.afp_base.proofs.ListFacts.{find-passes}

-- what a node that is there says of itself
pub file-is : (v : VolumeState) (id : ℕ) (node : Row) (dir : Bool) → IsSoundVolume v → has_node v.rows id ≡ true → ((row : Row) → row_at v.rows id ≡ Some row → IsRowOf v.rows node row) → dir ≡ node.dir
    → not dir ≡ has_file v.rows id
file-is v id node dir s there is dir_is =
    let row = row-there v.rows id there in
    ap not (dir_is ∙ ap (λ (r : Row). r.dir) (is row.0 row.1).shown) ∙ sym (test-found v.rows id (λ (r : Row). not r.dir) row.0 (ids-differ v s) row.1)

pub attribute-is : (v : VolumeState) (bit id : ℕ) (node : Row) (has : Bool) → IsSoundVolume v → has_node v.rows id ≡ true → ((row : Row) → row_at v.rows id ≡ Some row → IsRowOf v.rows node row)
    → has ≡ not (bit_and node.attributes bit == 0) → has ≡ has_attribute v.rows bit id
unfolding has_attribute
attribute-is v bit id node has s there is has_is =
    let row = row-there v.rows id there in
    has_is ∙ ap (λ (r : Row). not (bit_and r.attributes bit == 0)) (is row.0 row.1).shown
    ∙ sym (test-found v.rows id (λ (r : Row). not (bit_and r.attributes bit == 0)) row.0 (ids-differ v s) row.1)

-- what FPOpenFork finds is the row of the id to which the path leads
pub opens-row : (v : VolumeState) (user dir id : ℕ) (path : PathValue) → IsSoundVolume v → found v.rows user dir path ≡ Ok id → has_node v.rows id ≡ true → has_file v.rows id ≡ true
    → open_fork_file v user dir path ≡ row_at v.rows id
unfolding open_fork_file
opens-row v user dir id path s leads there file =
    let row = row-there v.rows id there in
    ap (λ (r : Result ℕ Code). done_at r None (λ id. file_of (row_at v.rows id))) leads
    ∙ ap file_of row.1
    ∙ ap (λ (d : Bool). if d then None else Some row.0) (file-found v.rows id row.0 (ids-differ v s) row.1 file)
    ∙ sym row.1

row-id : (rows : List Row) (id : ℕ) (row : Row) → row_at rows id ≡ Some row → row.id ≡ id
unfolding row_at
row-id rows id row there = eqb-true row.id id (find-passes (λ (r : Row). r.id == id) rows row there)

pub opens-id : (v : VolumeState) (user dir id : ℕ) (path : PathValue) → has_node v.rows id ≡ true → open_fork_file v user dir path ≡ row_at v.rows id
    → option_map (λ (file : Row). file.id) (open_fork_file v user dir path) ≡ Some id
opens-id v user dir id path there is =
    let row = row-there v.rows id there in
    ap (option_map (λ (file : Row). file.id)) (is ∙ row.1) ∙ ap Some (row-id v.rows id row.0 row.1)
