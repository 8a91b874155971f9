-- Rows are formed and limits are kept.
use Rattle.std.proofs.Common.{◌==◌, ◌≡◌, ◌∙◌, ap, sym, refl, ℕ, ◌+◌, ◌≤◌, ◌<◌, Bool, true, false, not, ◌&&◌, List, [], ◌∷◌, ◌++◌, length, map, arith}
use Rattle.std.specs.Prelude.{nat_le, is_none, None}
use Rattle.std.specs.List.{list_all, filter}
use Rattle.std.proofs.lemmas.Bool.{and_parts, and_from, cond_both, leb-true, le-leb}
use Rattle.std.proofs.lemmas.List.Sums.{sum_by-append, sum_by-cons}
use Rattle.std.proofs.lemmas.List.{length-append}
use Rattle.afp_names.specs.Name.{name_fault}
use Rattle.volume_spec.specs.Edits.{without, with_row, without_node}
use Rattle.afp_base.specs.Apart.{are_apart}
use Rattle.afp_base.specs.Limits.{most_fork_bytes}
use Rattle.volume_spec.specs.SoundVolume.{is_formed, is_comment, is_icon, are_one_icon, are_one_appl, is_formed_volume, keeps_limits, fork_bytes, last_next_id, most_nodes, most_icons, most_appls, code_size, row_bytes}
use Rattle.volume_spec.specs.VolumeState.{Row, Comment, Appl, VolumeState, first_id, new_row}
use Rattle.afp_base.proofs.ListFacts.{all-filter, all-map-where, all-snoc, apart-filter, length-filter-le, length-mapped}

pub record FormedParts (v : VolumeState) : Type 0 where
  pub low : first_id ≤ v.next_id
  pub high : v.next_id ≤ last_next_id
  pub rows : list_all is_formed v.rows ≡ true
  pub one_comment : are_apart (λ (a : Comment) b. a.node == b.node) v.comments ≡ true
  pub comments : list_all is_comment v.comments ≡ true
  pub one_icon : are_apart are_one_icon v.icons ≡ true
  pub icons : list_all is_icon v.icons ≡ true
  pub one_appl : are_apart are_one_appl v.appls ≡ true
  pub appls : list_all (λ (appl : Appl). length appl.creator == code_size) v.appls ≡ true

abbrev next : VolumeState → Bool
next v = nat_le first_id v.next_id && nat_le v.next_id last_next_id

abbrev one_comment_each : VolumeState → Bool
one_comment_each v = are_apart (λ (a : Comment) b. a.node == b.node) v.comments

abbrev appls_fit : VolumeState → Bool
appls_fit v = list_all (λ (appl : Appl). length appl.creator == code_size) v.appls

pub formed-parts : (v : VolumeState) → is_formed_volume v ≡ true → FormedParts v
unfolding is_formed_volume
formed-parts v h =
    let a = and_parts (next v) (list_all is_formed v.rows && (one_comment_each v && (list_all is_comment v.comments && (are_apart are_one_icon v.icons && (list_all is_icon v.icons && (are_apart are_one_appl v.appls && appls_fit v)))))) h in
    let n = and_parts (nat_le first_id v.next_id) (nat_le v.next_id last_next_id) a.0 in
    let b = and_parts (list_all is_formed v.rows) (one_comment_each v && (list_all is_comment v.comments && (are_apart are_one_icon v.icons && (list_all is_icon v.icons && (are_apart are_one_appl v.appls && appls_fit v))))) a.1 in
    let d = and_parts (one_comment_each v) (list_all is_comment v.comments && (are_apart are_one_icon v.icons && (list_all is_icon v.icons && (are_apart are_one_appl v.appls && appls_fit v)))) b.1 in
    let e = and_parts (list_all is_comment v.comments) (are_apart are_one_icon v.icons && (list_all is_icon v.icons && (are_apart are_one_appl v.appls && appls_fit v))) d.1 in
    let f = and_parts (are_apart are_one_icon v.icons) (list_all is_icon v.icons && (are_apart are_one_appl v.appls && appls_fit v)) e.1 in
    let g = and_parts (list_all is_icon v.icons) (are_apart are_one_appl v.appls && appls_fit v) f.1 in
    let i = and_parts (are_apart are_one_appl v.appls) (appls_fit v) g.1 in
    record { low = leb-true first_id v.next_id n.0; high = leb-true v.next_id last_next_id n.1; rows = b.0; one_comment = d.0; comments = e.0; one_icon = f.0; icons = g.0; one_appl = i.0; appls = i.1 }

pub formed-whole : (v : VolumeState) → FormedParts v → is_formed_volume v ≡ true
unfolding is_formed_volume
formed-whole v p =
    and_from (next v) _ (and_from (nat_le first_id v.next_id) (nat_le v.next_id last_next_id) (le-leb first_id v.next_id p.low) (le-leb v.next_id last_next_id p.high))
    (and_from (list_all is_formed v.rows) _ p.rows
    (and_from (one_comment_each v) _ p.one_comment
    (and_from (list_all is_comment v.comments) _ p.comments
    (and_from (are_apart are_one_icon v.icons) _ p.one_icon
    (and_from (list_all is_icon v.icons) _ p.icons
    (and_from (are_apart are_one_appl v.appls) _ p.one_appl p.appls))))))

-- a new node of a name is formed
pub new-formed : (dir : Bool) (user id parent : ℕ) (name : List ℕ) (now : ℕ) → name_fault name ≡ None → is_formed (new_row dir user id parent name now) ≡ true
new-formed dir user id parent name now good = go dir
  where
    named : (is_none (name_fault name) && true) ≡ true
    named = ap (λ o. is_none o && true) good

    go : (dir : Bool) → is_formed (new_row dir user id parent name now) ≡ true
    go true = and_from (is_none (name_fault name) && true) true named refl
    go false = and_from (is_none (name_fault name) && true) true named refl

pub formed-new : (v : VolumeState) (row : Row) → v.next_id < last_next_id → is_formed row ≡ true → FormedParts v → FormedParts (with_row row v)
formed-new v row left good p = record {
  low = let k = p.low in omega arith;
  high = omega arith;
  rows = all-snoc is_formed v.rows ((record row { id = v.next_id })) p.rows good;
  one_comment = p.one_comment;
  comments = p.comments;
  one_icon = p.one_icon;
  icons = p.icons;
  one_appl = p.one_appl;
  appls = p.appls;
}

pub formed-mapped : (v : VolumeState) (change : Row → Row) → ((row : Row) → is_formed row ≡ true → is_formed (change row) ≡ true) → FormedParts v → FormedParts (record v { rows = map change v.rows })
formed-mapped v change keeps p = record {
  low = p.low;
  high = p.high;
  rows = all-map-where is_formed is_formed change v.rows keeps p.rows;
  one_comment = p.one_comment;
  comments = p.comments;
  one_icon = p.one_icon;
  icons = p.icons;
  one_appl = p.one_appl;
  appls = p.appls;
}

pub formed-without : (v : VolumeState) (id : ℕ) → FormedParts v → FormedParts (without_node id v)
unfolding without
formed-without v id p = record {
  low = p.low;
  high = p.high;
  rows = all-filter is_formed (λ row. not (row.id == id)) v.rows p.rows;
  one_comment = apart-filter (λ (a : Comment) b. a.node == b.node) (λ comment. not (comment.node == id)) v.comments p.one_comment;
  comments = all-filter is_comment (λ comment. not (comment.node == id)) v.comments p.comments;
  one_icon = p.one_icon;
  icons = p.icons;
  one_appl = apart-filter are_one_appl (λ appl. not (appl.node == id)) v.appls p.one_appl;
  appls = all-filter (λ (appl : Appl). length appl.creator == code_size) (λ appl. not (appl.node == id)) v.appls p.appls;
}

-- limits

pub record LimitParts (v : VolumeState) : Type 0 where
  pub nodes : length v.rows ≤ most_nodes
  pub bytes : fork_bytes v.rows ≤ most_fork_bytes
  pub icons : length v.icons ≤ most_icons
  pub appls : length v.appls ≤ most_appls

pub limit-parts : (v : VolumeState) → keeps_limits v ≡ true → LimitParts v
unfolding keeps_limits
limit-parts v h =
    let a = and_parts (nat_le (length v.rows) most_nodes) (nat_le (fork_bytes v.rows) most_fork_bytes && (nat_le (length v.icons) most_icons && nat_le (length v.appls) most_appls)) h in
    let b = and_parts (nat_le (fork_bytes v.rows) most_fork_bytes) (nat_le (length v.icons) most_icons && nat_le (length v.appls) most_appls) a.1 in
    let d = and_parts (nat_le (length v.icons) most_icons) (nat_le (length v.appls) most_appls) b.1 in
    record { nodes = leb-true (length v.rows) most_nodes a.0; bytes = leb-true (fork_bytes v.rows) most_fork_bytes b.0; icons = leb-true (length v.icons) most_icons d.0; appls = leb-true (length v.appls) most_appls d.1 }

pub limit-whole : (v : VolumeState) → LimitParts v → keeps_limits v ≡ true
unfolding keeps_limits
limit-whole v p =
    and_from (nat_le (length v.rows) most_nodes) _ (le-leb (length v.rows) most_nodes p.nodes)
    (and_from (nat_le (fork_bytes v.rows) most_fork_bytes) _ (le-leb (fork_bytes v.rows) most_fork_bytes p.bytes)
    (and_from (nat_le (length v.icons) most_icons) _ (le-leb (length v.icons) most_icons p.icons) (le-leb (length v.appls) most_appls p.appls)))

pub limits-new : (v : VolumeState) (row : Row) → length v.rows < most_nodes → fork_bytes v.rows + row_bytes row ≤ most_fork_bytes → LimitParts v → LimitParts (with_row row v)
limits-new v row room fits p =
    let new : Row = (record row { id = v.next_id }) in
    let longer : length (v.rows ++ new ∷ []) ≡ length v.rows + 1 = length-append v.rows (new ∷ []) in
    let same : fork_bytes (v.rows ++ new ∷ []) ≡ fork_bytes v.rows + (0 + row_bytes row) = sum_by-append row_bytes v.rows (new ∷ []) in
    let bytes : fork_bytes v.rows ≤ most_fork_bytes = p.bytes in
    record { nodes = omega arith; bytes = omega arith; icons = p.icons; appls = p.appls }

bytes-mapped : (change : Row → Row) (rows : List Row) → ((row : Row) → row_bytes (change row) ≡ row_bytes row) → fork_bytes (map change rows) ≡ fork_bytes rows
bytes-mapped change [] same = refl
bytes-mapped change (row ∷ rows) same =
    sum_by-cons row_bytes (change row) (map change rows) ∙ (λ i. same row i + bytes-mapped change rows same i) ∙ sym (sum_by-cons row_bytes row rows)

pub limits-mapped : (v : VolumeState) (change : Row → Row) → ((row : Row) → row_bytes (change row) ≡ row_bytes row) → LimitParts v → LimitParts (record v { rows = map change v.rows })
limits-mapped v change same p =
    let longer : length (map change v.rows) ≡ length v.rows = length-mapped change v.rows in
    let bytes : fork_bytes (map change v.rows) ≡ fork_bytes v.rows = bytes-mapped change v.rows same in
    let few : length v.rows ≤ most_nodes = p.nodes in
    let small : fork_bytes v.rows ≤ most_fork_bytes = p.bytes in
    record { nodes = omega arith; bytes = omega arith; icons = p.icons; appls = p.appls }

bytes-filter : (keep : Row → Bool) (rows : List Row) → fork_bytes (filter keep rows) ≤ fork_bytes rows
bytes-filter keep [] = omega arith
bytes-filter keep (row ∷ rows) =
    let rest : fork_bytes (filter keep rows) ≤ fork_bytes rows = bytes-filter keep rows in
    let whole : fork_bytes (row ∷ rows) ≡ row_bytes row + fork_bytes rows = sum_by-cons row_bytes row rows in
    cond_both (keep row) (row ∷ filter keep rows) (filter keep rows) (λ l. fork_bytes l ≤ fork_bytes (row ∷ rows))
    (λ kept. let part : fork_bytes (row ∷ filter keep rows) ≡ row_bytes row + fork_bytes (filter keep rows) = sum_by-cons row_bytes row (filter keep rows) in omega arith)
    (λ left. omega arith)

pub limits-without : (v : VolumeState) (id : ℕ) → LimitParts v → LimitParts (without_node id v)
unfolding without
limits-without v id p =
    let fewer : length (filter (λ (row : Row). not (row.id == id)) v.rows) ≤ length v.rows = length-filter-le (λ (row : Row). not (row.id == id)) v.rows in
    let less : fork_bytes (filter (λ (row : Row). not (row.id == id)) v.rows) ≤ fork_bytes v.rows = bytes-filter (λ (row : Row). not (row.id == id)) v.rows in
    let fewer_appls : length (filter (λ (appl : Appl). not (appl.node == id)) v.appls) ≤ length v.appls = length-filter-le (λ (appl : Appl). not (appl.node == id)) v.appls in
    let few : length v.rows ≤ most_nodes = p.nodes in
    let small : fork_bytes v.rows ≤ most_fork_bytes = p.bytes in
    let appls : length v.appls ≤ most_appls = p.appls in
    record { nodes = omega arith; bytes = omega arith; icons = p.icons; appls = omega arith }
