-- What a sound volume's tests say of its rows.
use Rattle.std.proofs.Common.{◌≡◌, true, List, [], length, map, refl}
use Rattle.std.specs.Prelude.{◌==◌, ◌++◌, flat_map, is_none}
use Rattle.std.specs.List.{list_all}
use Rattle.volume_spec.specs.VolumeState.{Appl, Comment, Icon, Row as VolumeRow, VolumeState}
use Rattle.volume_spec.specs.Order.{rises_from}
use Rattle.volume_spec.specs.SoundVolume.{IsSoundVolume, is_formed, is_formed_volume, is_in_order, has_fit_privileges, has_rising_ids, is_named}
use Rattle.volume_keeper_records.specs.declared.rows.ForkBlock.{ForkBlock}
use Rattle.volume_keeper_records.specs.declared.rows.Node.{Node}
use Rattle.volume_keeper_records.specs.declared.rows.TableRow.{TableRow}
use Rattle.volume_keeper_records.specs.declared.rows.TableRow.TheVariants as row
use Rattle.volume_keeper_records.specs.Records.{version}
use Rattle.volume_keeper_records.specs.Image.{fork_blocks, node_of, rows_of, tables_of}
use Rattle.volume_keeper_records.proofs.ImageClear.{formed_none}
use Rattle.volume_keeper.specs.loading.lemma.Rebuilt.{has_name}
use Rattle.afp_names.specs.Name.{name_fault}
use Rattle.afp_base.proofs.Facts.{left_true, right_true}
use Rattle.afp_base.proofs.ListFacts.{all-always, all-append, all-map-where, nil_from_no_length}

pub ids_rise : (v : VolumeState) → IsSoundVolume v → rises_from (λ (r : VolumeRow). r.id) 0 v.rows ≡ true
unfolding is_in_order has_rising_ids
ids_rise v sound = left_true (rises_from (λ (r : VolumeRow). r.id) 0 v.rows) _ sound.order

pub rows_formed : (v : VolumeState) → IsSoundVolume v → list_all is_formed v.rows ≡ true
unfolding is_formed_volume
rows_formed v sound = left_true (list_all is_formed v.rows) _ (right_true _ _ sound.formed)

-- a directory has no bytes
abbrev pub HasFitForks : VolumeRow → Type 0
HasFitForks r = r.dir ≡ true → (r.data_fork ≡ []) × (r.resource_fork ≡ [])

pub fit_forks : (r : VolumeRow) → is_formed r ≡ true → HasFitForks r
fit_forks r e d =
    let two = formed_none r.dir (is_named r) _ _ r.filed (length r.data_fork == 0) (length r.resource_fork == 0) d (right_true (has_fit_privileges r.dir r.privileges) _ e) in
    (nil_from_no_length r.data_fork two.0, nil_from_no_length r.resource_fork two.1)

-- each node has a name
nodes_named : (v : VolumeState) → IsSoundVolume v → list_all has_name (map (λ n. row.Node n) (map (node_of version) v.rows)) ≡ true
nodes_named v sound =
    all-map-where (λ (n : Node). is_none (name_fault n.name)) has_name (λ n. row.Node n) (map (node_of version) v.rows) (λ n e. e)
    (all-map-where is_formed (λ (n : Node). is_none (name_fault n.name)) (node_of version) v.rows (λ r e. left_true (is_none (name_fault r.name)) _ (left_true (is_named r) _ (right_true (has_fit_privileges r.dir r.privileges) _ e))) (rows_formed v sound))

others_named : {A : Type 0} (make : A → TableRow) → ((a : A) → has_name (make a) ≡ true) → (xs : List A) → list_all has_name (map make xs) ≡ true
others_named make named xs = all-map-where (λ x. true) has_name make xs (λ x e. named x) (all-always xs)

pub rows_named : (v : VolumeState) → IsSoundVolume v → list_all has_name (rows_of (tables_of version v)) ≡ true
rows_named v sound =
    let nodes = map (λ (n : Node). row.Node n) (map (node_of version) v.rows) in
    let blocks = map (λ (b : ForkBlock). row.Block b) (flat_map fork_blocks v.rows) in
    let comments = map (λ (c : Comment). row.Comment c) v.comments in
    let icons = map (λ (icon : Icon). row.Icon icon) v.icons in
    let appls = map (λ (a : Appl). row.Appl a) v.appls in
    all-append has_name nodes (blocks ++ (comments ++ (icons ++ appls))) (nodes_named v sound)
    (all-append has_name blocks (comments ++ (icons ++ appls)) (others_named (λ (b : ForkBlock). row.Block b) (λ b. refl) (flat_map fork_blocks v.rows))
    (all-append has_name comments (icons ++ appls) (others_named (λ (c : Comment). row.Comment c) (λ c. refl) v.comments)
    (all-append has_name icons appls (others_named (λ (icon : Icon). row.Icon icon) (λ icon. refl) v.icons) (others_named (λ (a : Appl). row.Appl a) (λ a. refl) v.appls))))
