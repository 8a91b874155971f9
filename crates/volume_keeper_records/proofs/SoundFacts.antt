-- What a sound volume's tests say, one by one.
use Rattle.std.proofs.Common.{◌≡◌, ◌≤◌, Bool, true, false, length, refl}
use Rattle.std.specs.Prelude.{nat_le, nat_lt, ◌&&◌, ◌==◌}
use Rattle.std.specs.List.{list_all}
use Rattle.std.proofs.lemmas.Bool.{and_parts, leb-true}
use Rattle.volume_spec.specs.VolumeState.{Comment, Appl, VolumeState, root_id, first_id, Row as VolumeRow}
use Rattle.volume_spec.specs.Order.{rises, rises_from}
use Rattle.afp_base.specs.Apart.{are_apart}
use Rattle.afp_base.specs.Limits.{most_fork_bytes}
use Rattle.volume_spec.specs.SoundVolume.{IsSoundVolume, is_tree, is_in_place, has_apart_names, are_named_alike, has_noted_nodes, keeps_limits, is_formed_volume, is_in_order, has_rising_ids, has_node, has_file, is_comment, is_icon, are_one_icon, are_one_appl, icon_key, appl_key, fork_bytes, most_nodes, most_icons, most_appls, last_next_id, code_size, is_formed as is_formed_row}
use Rattle.volume_spec.specs.TypedVolume.{is_date, are_bytes, is_typed_row, is_typed_comment, is_typed_icon, is_typed_appl, is_typed_volume}
use Rattle.volume_keeper_records.proofs.Chains.{Chain, from-all, rises-chain}
use Rattle.volume_keeper_records.proofs.RowOrder.{icon_before, appl_before}
use Rattle.afp_base.proofs.Facts.{right_true}

pub record SoundFacts (v : VolumeState) : Type 0 where
  pub root : has_node v.rows root_id ≡ true
  pub places : list_all (is_in_place v) v.rows ≡ true
  pub names : are_apart are_named_alike v.rows ≡ true
  pub commented : list_all (λ (c : Comment). has_node v.rows c.node) v.comments ≡ true
  pub filed : list_all (λ (a : Appl). has_file v.rows a.node) v.appls ≡ true
  pub few_rows : length v.rows ≤ most_nodes
  pub few_bytes : fork_bytes v.rows ≤ most_fork_bytes
  pub few_icons : length v.icons ≤ most_icons
  pub few_appls : length v.appls ≤ most_appls
  pub next : (nat_le first_id v.next_id && nat_le v.next_id last_next_id) ≡ true
  pub formed : list_all is_formed_row v.rows ≡ true
  pub texts : list_all is_comment v.comments ≡ true
  pub icons : list_all is_icon v.icons ≡ true
  pub creators : list_all (λ (a : Appl). length a.creator == code_size) v.appls ≡ true
  pub ids : Chain (λ (a : VolumeRow) b. nat_lt a.id b.id) v.rows
  pub comment_order : Chain (λ (a : Comment) b. nat_lt a.node b.node) v.comments
  pub icon_order : Chain icon_before v.icons
  pub appl_order : Chain appl_before v.appls

tree_facts : (v : VolumeState) → is_tree v ≡ true → (has_node v.rows root_id ≡ true) × (list_all (is_in_place v) v.rows ≡ true)
unfolding is_tree
tree_facts v e = and_parts (has_node v.rows root_id) (list_all (is_in_place v) v.rows) (right_true (are_apart (λ (a : VolumeRow) b. a.id == b.id) v.rows) (has_node v.rows root_id && list_all (is_in_place v) v.rows) e)

name_facts : (v : VolumeState) → has_apart_names v ≡ true → are_apart are_named_alike v.rows ≡ true
unfolding has_apart_names
name_facts v e = e

note_facts : (v : VolumeState) → has_noted_nodes v ≡ true → (list_all (λ (c : Comment). has_node v.rows c.node) v.comments ≡ true) × (list_all (λ (a : Appl). has_file v.rows a.node) v.appls ≡ true)
unfolding has_noted_nodes
note_facts v e = and_parts (list_all (λ (c : Comment). has_node v.rows c.node) v.comments) (list_all (λ (a : Appl). has_file v.rows a.node) v.appls) e

limit_facts : (v : VolumeState) → keeps_limits v ≡ true → (length v.rows ≤ most_nodes) × (fork_bytes v.rows ≤ most_fork_bytes) × (length v.icons ≤ most_icons) × (length v.appls ≤ most_appls)
unfolding keeps_limits
limit_facts v e =
    let one = and_parts (nat_le (length v.rows) most_nodes) (nat_le (fork_bytes v.rows) most_fork_bytes && (nat_le (length v.icons) most_icons && nat_le (length v.appls) most_appls)) e in
    let two = and_parts (nat_le (fork_bytes v.rows) most_fork_bytes) (nat_le (length v.icons) most_icons && nat_le (length v.appls) most_appls) one.1 in
    let three = and_parts (nat_le (length v.icons) most_icons) (nat_le (length v.appls) most_appls) two.1 in
    (leb-true _ _ one.0, leb-true _ _ two.0, leb-true _ _ three.0, leb-true _ _ three.1)

-- eight tests one after the other
eight : (a b c d e f g h : Bool) → (a && (b && (c && (d && (e && (f && (g && h))))))) ≡ true → (a ≡ true) × (b ≡ true) × (c ≡ true) × (d ≡ true) × (e ≡ true) × (f ≡ true) × (g ≡ true) × (h ≡ true)
eight true true true true true true true h p = (refl, refl, refl, refl, refl, refl, refl, p)
eight false b c d e f g h p = absurd (cc)
eight true false c d e f g h p = absurd (cc)
eight true true false d e f g h p = absurd (cc)
eight true true true false e f g h p = absurd (cc)
eight true true true true false f g h p = absurd (cc)
eight true true true true true false g h p = absurd (cc)
eight true true true true true true false h p = absurd (cc)

form_facts : (v : VolumeState) → is_formed_volume v ≡ true
    → ((nat_le first_id v.next_id && nat_le v.next_id last_next_id) ≡ true) × (list_all is_formed_row v.rows ≡ true) × (list_all is_comment v.comments ≡ true) × (list_all is_icon v.icons ≡ true) × (list_all (λ (a : Appl). length a.creator == code_size) v.appls ≡ true)
unfolding is_formed_volume
form_facts v e =
    let all = eight (nat_le first_id v.next_id && nat_le v.next_id last_next_id) (list_all is_formed_row v.rows) (are_apart (λ (a : Comment) b. a.node == b.node) v.comments) (list_all is_comment v.comments)
    (are_apart are_one_icon v.icons) (list_all is_icon v.icons) (are_apart are_one_appl v.appls) (list_all (λ (a : Appl). length a.creator == code_size) v.appls) e in
    (all.0, all.1, all.3, all.5, all.7)

order_facts : (v : VolumeState) → is_in_order v ≡ true → Chain (λ (a : VolumeRow) b. nat_lt a.id b.id) v.rows × Chain (λ (a : Comment) b. nat_lt a.node b.node) v.comments × Chain icon_before v.icons × Chain appl_before v.appls
unfolding is_in_order has_rising_ids
order_facts v e =
    let one = and_parts (has_rising_ids v.rows) (rises_from (λ (c : Comment). c.node) 0 v.comments && (rises icon_key v.icons && rises appl_key v.appls)) e in
    let two = and_parts (rises_from (λ (c : Comment). c.node) 0 v.comments) (rises icon_key v.icons && rises appl_key v.appls) one.1 in
    let three = and_parts (rises icon_key v.icons) (rises appl_key v.appls) two.1 in
    ((from-all (λ (r : VolumeRow). r.id) 0 v.rows one.0).1, (from-all (λ (c : Comment). c.node) 0 v.comments two.0).1, rises-chain icon_key v.icons three.0, rises-chain appl_key v.appls three.1)

pub sound_facts : (v : VolumeState) → IsSoundVolume v → SoundFacts v
sound_facts v s =
    let tree = tree_facts v s.tree in
    let notes = note_facts v s.notes in
    let limits = limit_facts v s.limits in
    let forms = form_facts v s.formed in
    let order = order_facts v s.order in
    record {
      root = tree.0;
      places = tree.1;
      names = name_facts v s.names;
      commented = notes.0;
      filed = notes.1;
      few_rows = limits.0;
      few_bytes = limits.1;
      few_icons = limits.2;
      few_appls = limits.3;
      next = forms.0;
      formed = forms.1;
      texts = forms.2;
      icons = forms.3;
      creators = forms.4;
      ids = order.0;
      comment_order = order.1;
      icon_order = order.2;
      appl_order = order.3;
    }

pub record TypedFacts (v : VolumeState) : Type 0 where
  pub created : is_date v.created ≡ true
  pub modified : is_date v.modified ≡ true
  pub backup : is_date v.backup ≡ true
  pub rows : list_all is_typed_row v.rows ≡ true
  pub comments : list_all is_typed_comment v.comments ≡ true
  pub icons : list_all is_typed_icon v.icons ≡ true
  pub appls : list_all is_typed_appl v.appls ≡ true

pub typed_facts : (v : VolumeState) → is_typed_volume v ≡ true → TypedFacts v
unfolding is_typed_volume
typed_facts v e =
    let rest = right_true (are_bytes v.name)
    (is_date v.created && (is_date v.modified && (is_date v.backup && (nat_le v.next_id 4294967296 && (list_all is_typed_row v.rows && (list_all is_typed_comment v.comments && (list_all is_typed_icon v.icons && list_all is_typed_appl v.appls))))))) e in
    let all = eight (is_date v.created) (is_date v.modified) (is_date v.backup) (nat_le v.next_id 4294967296) (list_all is_typed_row v.rows) (list_all is_typed_comment v.comments) (list_all is_typed_icon v.icons) (list_all is_typed_appl v.appls) rest in
    record { created = all.0; modified = all.1; backup = all.2; rows = all.4; comments = all.5; icons = all.6; appls = all.7 }
