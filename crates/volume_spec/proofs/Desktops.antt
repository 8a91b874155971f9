-- The desktop database of a volume stays in order, formed and within its limits.
use Rattle.std.proofs.Common.{◌≡◌, ◌∙◌, ap, sym, refl, ℕ, zero, suc, ◌-◌, ◌==◌, ◌≤◌, ◌<◌, Bool, true, false, not, ◌&&◌, cond, List, [], ◌∷◌, ◌++◌, length, map, take, inl, inr, Some, None, arith}
use Rattle.std.specs.Prelude.{bytes_eq, nat_le, nat_lt, slice_get}
use Rattle.std.specs.List.{list_all, list_any, filter}
use Rattle.std.proofs.lemmas.Bool.{and_parts, and_from, cases_Bool, cond_both, cond-true, cond-false, eqb-true, eq-eqb, leb-true, le-leb, ltb-true, lt-ltb, ne_eqb, eqb-false}
use Rattle.std.proofs.lemmas.List.{length-take}
use Rattle.volume_spec.proofs.Formed.{FormedParts, LimitParts, formed-parts, formed-whole, limit-parts, limit-whole}
use Rattle.volume_spec.proofs.Keys.{before-differs, one-before, one-same, put-few, put-key-all, put-key-rises, rises-by-key, rises-by-number, finds-put, finds-gone}
use Rattle.volume_spec.proofs.Notes.{NoteParts, note-parts, note-whole}
use Rattle.volume_spec.proofs.Ordered.{put-all, put-rises}
use Rattle.volume_spec.proofs.Orders.{OrderParts, order-parts, order-whole}
use Rattle.volume_spec.proofs.Rising.{keys-filter}
use Rattle.volume_spec.proofs.Trees.{TreeParts, tree-parts, drawn}
use Rattle.volume_spec.specs.Desktop.{IsDesktop, at_key, comment_at, comment_key, creators_of, has_no_appl_room, has_no_icon_room, icon_at, icon_under, icons_of, is_appl, nth_icon, pair_key, with_appl, with_comment, with_icon, without_appl, without_comment, without_mappings}
use Rattle.volume_spec.specs.DesktopLaws.{with_desktop}
use Rattle.volume_spec.specs.Order.{stands_before, put_in, rises}
use Rattle.afp_base.specs.Apart.{are_apart}
use Rattle.volume_spec.specs.SoundVolume.{IsSoundVolume, appl_key, are_one_appl, are_one_icon, code_size, has_apart_names, has_file, has_node, has_noted_nodes, icon_key, is_comment, is_icon, is_in_place, is_tree, keeps_limits, longest_comment, longest_icon, most_appls, most_icons}
use Rattle.volume_spec.specs.VolumeState.{Appl, Comment, Icon, VolumeState, first_id, root_id}
use Rattle.afp_base.proofs.Facts.{bytes_differ_turn, bytes_same, bytes_true, never}
use Rattle.afp_base.proofs.ListFacts.{all-filter, all-kept, all-place, all-weaker, any-at, length-filter-le}

-- icons

pub icon-keeps : (cs : List Comment) (is : List Icon) (ms : List Appl) (icon : Icon) → is_icon icon ≡ true → has_no_icon_room (icon_key icon) is ≡ false → IsDesktop cs is ms → IsDesktop cs (with_icon icon is) ms
icon-keeps cs is ms icon formed room d = record {
  comments_rise = d.comments_rise;
  icons_rise = put-key-rises icon_key icon is d.icons_rise;
  appls_rise = d.appls_rise;
  comments_formed = d.comments_formed;
  icons_formed = put-key-all icon_key is_icon icon is formed d.icons_formed;
  appls_formed = d.appls_formed;
  few_icons = put-few icon_key most_icons icon is room d.few_icons;
  few_appls = d.few_appls;
}

-- mappings

less-few : (most n m : ℕ) → m ≤ n → nat_le n most ≡ true → nat_le m most ≡ true
less-few most n m less h = let k : n ≤ most = leb-true n most h in le-leb m most (omega arith)

pub appl-keeps : (cs : List Comment) (is : List Icon) (ms : List Appl) (appl : Appl) → is_appl appl ≡ true → has_no_appl_room appl.creator appl.node ms ≡ false → IsDesktop cs is ms → IsDesktop cs is (with_appl appl ms)
appl-keeps cs is ms appl formed room d = record {
  comments_rise = d.comments_rise;
  icons_rise = d.icons_rise;
  appls_rise = put-key-rises appl_key appl ms d.appls_rise;
  comments_formed = d.comments_formed;
  icons_formed = d.icons_formed;
  appls_formed = put-key-all appl_key is_appl appl ms formed d.appls_formed;
  few_icons = d.few_icons;
  few_appls = put-few appl_key most_appls appl ms room d.few_appls;
}

filtered-keeps : (cs : List Comment) (is : List Icon) (ms : List Appl) (keep : Appl → Bool) → IsDesktop cs is ms → IsDesktop cs is (filter keep ms)
filtered-keeps cs is ms keep d = record {
  comments_rise = d.comments_rise;
  icons_rise = d.icons_rise;
  appls_rise = keys-filter appl_key keep ms d.appls_rise;
  comments_formed = d.comments_formed;
  icons_formed = d.icons_formed;
  appls_formed = all-filter is_appl keep ms d.appls_formed;
  few_icons = d.few_icons;
  few_appls = less-few most_appls (length ms) (length (filter keep ms)) (length-filter-le keep ms) d.few_appls;
}

pub taken-appl-keeps : (cs : List Comment) (is : List Icon) (ms : List Appl) (creator : List ℕ) (node : ℕ) → IsDesktop cs is ms → IsDesktop cs is (without_appl creator node ms)
taken-appl-keeps cs is ms creator node d = filtered-keeps cs is ms (λ appl. not (bytes_eq (appl_key appl) (pair_key creator node))) d

-- comments

pub taken-comment-keeps : (cs : List Comment) (is : List Icon) (ms : List Appl) (node : ℕ) → IsDesktop cs is ms → IsDesktop (without_comment node cs) is ms
taken-comment-keeps cs is ms node d = record {
  comments_rise = keys-filter comment_key (λ comment. not (comment.node == node)) cs d.comments_rise;
  icons_rise = d.icons_rise;
  appls_rise = d.appls_rise;
  comments_formed = all-filter is_comment (λ comment. not (comment.node == node)) cs d.comments_formed;
  icons_formed = d.icons_formed;
  appls_formed = d.appls_formed;
  few_icons = d.few_icons;
  few_appls = d.few_appls;
}

pub gone-node-keeps : (cs : List Comment) (is : List Icon) (ms : List Appl) (node : ℕ) → IsDesktop cs is ms → IsDesktop (without_comment node cs) is (without_mappings node ms)
gone-node-keeps cs is ms node d = taken-comment-keeps cs is (without_mappings node ms) node (filtered-keeps cs is ms (λ appl. not (appl.node == node)) d)

-- a comment's text as it is kept
pub cut-formed : (node : ℕ) (text : List ℕ) → (length text == 0) ≡ false → is_comment (record { node = node; text = take longest_comment text }) ≡ true
cut-formed node text some =
    let differ : (length text ≡ 0 → ⊥) = eqb-false (length text) 0 some in
    let n : ℕ = length (take longest_comment text) in
    and_from (nat_le 1 n) (nat_le n longest_comment)
    (le-leb 1 n (omega (arith, differ, length-take longest_comment text)))
    (le-leb n longest_comment (omega (arith, length-take longest_comment text)))

others-apart : (comment : Comment) (cs : List Comment) → list_all (λ y. not (bytes_eq (comment_key comment) (comment_key y))) (without_comment comment.node cs) ≡ true
others-apart comment cs =
    all-weaker (λ y. not (y.node == comment.node)) (λ y. not (bytes_eq (comment_key comment) (comment_key y))) (without_comment comment.node cs)
    (λ y other. bytes_differ_turn (comment_key y) (comment_key comment) (ap not (one-same y.node comment.node) ∙ other))
    (all-kept (λ y. not (y.node == comment.node)) cs)

pub new-comment-keeps : (cs : List Comment) (is : List Icon) (ms : List Appl) (comment : Comment) → is_comment comment ≡ true → IsDesktop cs is ms → IsDesktop (put_in comment_key comment (without_comment comment.node cs)) is ms
new-comment-keeps cs is ms comment formed d =
    let t : IsDesktop (without_comment comment.node cs) is ms = taken-comment-keeps cs is ms comment.node d in
    record {
      comments_rise = put-rises comment_key comment (without_comment comment.node cs) (others-apart comment cs) t.comments_rise;
      icons_rise = d.icons_rise;
      appls_rise = d.appls_rise;
      comments_formed = put-all comment_key is_comment comment (without_comment comment.node cs) formed t.comments_formed;
      icons_formed = d.icons_formed;
      appls_formed = d.appls_formed;
      few_icons = d.few_icons;
      few_appls = d.few_appls;
    }

pub comment-keeps : (cs : List Comment) (is : List Icon) (ms : List Appl) (node : ℕ) (text : List ℕ) → IsDesktop cs is ms → IsDesktop (with_comment node text cs) is ms
comment-keeps cs is ms node text d =
    let new : Comment = record { node = node; text = take longest_comment text } in
    cond_both (length text == 0) (without_comment node cs) (put_in comment_key new (without_comment node cs)) (λ l. IsDesktop l is ms)
    (λ none. taken-comment-keeps cs is ms node d)
    (λ some. new-comment-keeps cs is ms new (cut-formed node text some) d)

-- what is found of comments

pub comment-found : (cs : List Comment) (node other : ℕ) (text : List ℕ) → (length text == 0) ≡ false → comment_at other (with_comment node text cs) ≡ cond (node == other) (Some (record { node = node; text = take longest_comment text })) (comment_at other cs)
comment-found cs node other text some =
    let new : Comment = record { node = node; text = take longest_comment text } in
    ap (λ l. comment_at other l) (cond-false (length text == 0) (without_comment node cs) (put_in comment_key new (without_comment node cs)) some)
    ∙ finds-put comment_key (λ comment. comment.node == other) (λ comment. comment.node == node) new cs
    (λ here x there. eq-eqb x.node node (eqb-true x.node other there ∙ sym (eqb-true node other here)))
    (λ differ x there. let k : (node ≡ other → ⊥) = eqb-false node other differ in ne_eqb x.node node (λ same. k (sym same ∙ eqb-true x.node other there)))

pub comment-gone : (cs : List Comment) (node other : ℕ) → comment_at other (without_comment node cs) ≡ cond (node == other) None (comment_at other cs)
comment-gone cs node other =
    finds-gone (λ comment. comment.node == other) (λ comment. comment.node == node) (node == other) cs
    (λ here x there. eq-eqb x.node node (eqb-true x.node other there ∙ sym (eqb-true node other here)))
    (λ differ x there. let k : (node ≡ other → ⊥) = eqb-false node other differ in ne_eqb x.node node (λ same. k (sym same ∙ eqb-true x.node other there)))

-- keys that rise differ

key-apart : {A : Type 0} (key : A → List ℕ) (alike : A → A → Bool) (xs : List A) → ((a b : A) → alike a b ≡ true → key a ≡ key b) → rises key xs ≡ true → are_apart alike xs ≡ true
key-apart key alike [] same h = refl
key-apart {A} key alike (x ∷ xs) same h =
    let e = and_parts (list_all (λ y. stands_before (key x) (key y)) xs) (rises key xs) h in
    and_from (not (list_any (alike x) xs)) (are_apart alike xs)
    (elim (cases_Bool (list_any (alike x) xs)) [
      | inr none ↦ ap not none
      | inl some ↦ absurd (any-at (alike x) (λ y. stands_before (key x) (key y)) xs some e.0
          (λ y is before. never (bytes_eq (key x) (key y)) (bytes_true (key x) (key y) (same x y is)) (before-differs (key x) (key y) before)))
    ])
    (key-apart key alike xs same e.1)

one-icon-key : (a b : Icon) → are_one_icon a b ≡ true → icon_key a ≡ icon_key b
one-icon-key a b h =
    let e = and_parts (bytes_eq a.creator b.creator) (bytes_eq a.kind b.kind && (a.icon_kind == b.icon_kind)) h in
    let f = and_parts (bytes_eq a.kind b.kind) (a.icon_kind == b.icon_kind) e.1 in
    λ i. bytes_same a.creator b.creator e.0 i ++ bytes_same a.kind b.kind f.0 i ++ eqb-true a.icon_kind b.icon_kind f.1 i ∷ []

one-appl-key : (a b : Appl) → are_one_appl a b ≡ true → appl_key a ≡ appl_key b
one-appl-key a b h =
    let e = and_parts (bytes_eq a.creator b.creator) (a.node == b.node) h in
    λ i. bytes_same a.creator b.creator e.0 i ++ eqb-true a.node b.node e.1 i ∷ []

one-comment-key : (a b : Comment) → (a.node == b.node) ≡ true → comment_key a ≡ comment_key b
one-comment-key a b h = λ i. eqb-true a.node b.node h i ∷ []

-- the desktop database of a sound volume

pub sound-desktop : (v : VolumeState) → IsSoundVolume v → IsDesktop v.comments v.icons v.appls
unfolding keeps_limits
sound-desktop v s =
    let o : OrderParts v = order-parts v s.order in
    let f : FormedParts v = formed-parts v s.formed in
    let l : LimitParts v = limit-parts v s.limits in
    record {
      comments_rise = rises-by-number (λ (comment : Comment). comment.node) 0 v.comments o.comments;
      icons_rise = o.icons;
      appls_rise = o.appls;
      comments_formed = f.comments;
      icons_formed = f.icons;
      appls_formed = f.appls;
      few_icons = le-leb (length v.icons) most_icons l.icons;
      few_appls = le-leb (length v.appls) most_appls l.appls;
    }

-- no node of a tree has id 0
node-above : (v : VolumeState) (id : ℕ) → first_id ≤ v.next_id → TreeParts v → has_node v.rows id ≡ true → nat_lt 0 id ≡ true
node-above v id low tree there =
    any-at (λ row. row.id == id) (is_in_place v) v.rows there tree.placed (λ row is placed.
    let same : row.id ≡ id = eqb-true row.id id is in
    elim (cases_Bool (row.id == root_id)) [
      | inl root ↦ let two : row.id ≡ 2 = eqb-true row.id root_id root in lt-ltb 0 id (omega arith)
      | inr other ↦ let up : first_id ≤ row.id = (drawn v row other placed).low in lt-ltb 0 id (omega arith)
    ])

pub desktop-stands : (v : VolumeState) (cs : List Comment) (is : List Icon) (ms : List Appl) → IsDesktop cs is ms → has_noted_nodes (with_desktop v cs is ms) ≡ true → IsSoundVolume v → IsSoundVolume (with_desktop v cs is ms)
unfolding is_tree has_apart_names
desktop-stands v cs is ms d noted s =
    let w : VolumeState = with_desktop v cs is ms in
    let o : OrderParts v = order-parts v s.order in
    let f : FormedParts v = formed-parts v s.formed in
    let l : LimitParts v = limit-parts v s.limits in
    let n : NoteParts w = note-parts w noted in
    record {
      tree = s.tree;
      names = s.names;
      notes = noted;
      limits = limit-whole w (record { nodes = l.nodes; bytes = l.bytes; icons = leb-true (length is) most_icons d.few_icons; appls = leb-true (length ms) most_appls d.few_appls });
      formed = formed-whole w (record {
        low = f.low;
        high = f.high;
        rows = f.rows;
        one_comment = key-apart comment_key (λ a b. a.node == b.node) cs one-comment-key d.comments_rise;
        comments = d.comments_formed;
        one_icon = key-apart icon_key are_one_icon is one-icon-key d.icons_rise;
        icons = d.icons_formed;
        one_appl = key-apart appl_key are_one_appl ms one-appl-key d.appls_rise;
        appls = d.appls_formed;
      });
      order = order-whole w (record {
        rows = o.rows;
        comments = rises-by-key (λ (comment : Comment). comment.node) 0 cs
            (all-weaker (λ (comment : Comment). has_node v.rows comment.node) (λ comment. nat_lt 0 comment.node) cs (λ comment there. node-above v comment.node f.low (tree-parts v s.tree) there) n.comments) d.comments_rise;
        icons = d.icons_rise;
        appls = d.appls_rise;
      });
    }

-- each call

pub sound-add-icon : (v : VolumeState) (icon : Icon) → is_icon icon ≡ true → has_no_icon_room (icon_key icon) v.icons ≡ false → IsSoundVolume v → IsSoundVolume (record v { icons = with_icon icon v.icons })
unfolding has_noted_nodes
sound-add-icon v icon formed room s = desktop-stands v v.comments (with_icon icon v.icons) v.appls (icon-keeps v.comments v.icons v.appls icon formed room (sound-desktop v s)) s.notes s

pub sound-add-appl : (v : VolumeState) (appl : Appl) → is_appl appl ≡ true → has_file v.rows appl.node ≡ true → has_no_appl_room appl.creator appl.node v.appls ≡ false → IsSoundVolume v → IsSoundVolume (record v { appls = with_appl appl v.appls })
sound-add-appl v appl formed there room s =
    let n : NoteParts v = note-parts v s.notes in
    desktop-stands v v.comments v.icons (with_appl appl v.appls) (appl-keeps v.comments v.icons v.appls appl formed room (sound-desktop v s))
    (note-whole (with_desktop v v.comments v.icons (with_appl appl v.appls)) (record { comments = n.comments; appls = put-key-all appl_key (λ (a : Appl). has_file v.rows a.node) appl v.appls there n.appls })) s

pub sound-remove-appl : (v : VolumeState) (creator : List ℕ) (node : ℕ) → IsSoundVolume v → IsSoundVolume (record v { appls = without_appl creator node v.appls })
sound-remove-appl v creator node s =
    let n : NoteParts v = note-parts v s.notes in
    desktop-stands v v.comments v.icons (without_appl creator node v.appls) (taken-appl-keeps v.comments v.icons v.appls creator node (sound-desktop v s))
    (note-whole (with_desktop v v.comments v.icons (without_appl creator node v.appls)) (record {
      comments = n.comments;
      appls = all-filter (λ (a : Appl). has_file v.rows a.node) (λ appl. not (bytes_eq (appl_key appl) (pair_key creator node))) v.appls n.appls;
    })) s

pub sound-remove-comment : (v : VolumeState) (node : ℕ) → IsSoundVolume v → IsSoundVolume (record v { comments = without_comment node v.comments })
sound-remove-comment v node s =
    let n : NoteParts v = note-parts v s.notes in
    desktop-stands v (without_comment node v.comments) v.icons v.appls (taken-comment-keeps v.comments v.icons v.appls node (sound-desktop v s))
    (note-whole (with_desktop v (without_comment node v.comments) v.icons v.appls) (record {
      comments = all-filter (λ (c : Comment). has_node v.rows c.node) (λ comment. not (comment.node == node)) v.comments n.comments;
      appls = n.appls;
    })) s

pub sound-add-comment : (v : VolumeState) (node : ℕ) (text : List ℕ) → has_node v.rows node ≡ true → IsSoundVolume v → IsSoundVolume (record v { comments = with_comment node text v.comments })
sound-add-comment v node text there s =
    let n : NoteParts v = note-parts v s.notes in
    let new : Comment = record { node = node; text = take longest_comment text } in
    let left : list_all (λ (c : Comment). has_node v.rows c.node) (without_comment node v.comments) ≡ true = all-filter (λ (c : Comment). has_node v.rows c.node) (λ comment. not (comment.node == node)) v.comments n.comments in
    desktop-stands v (with_comment node text v.comments) v.icons v.appls (comment-keeps v.comments v.icons v.appls node text (sound-desktop v s))
    (note-whole (with_desktop v (with_comment node text v.comments) v.icons v.appls) (record {
      comments = cond_both (length text == 0) (without_comment node v.comments) (put_in comment_key new (without_comment node v.comments)) (λ l. list_all (λ (c : Comment). has_node v.rows c.node) l ≡ true)
          (λ none. left)
          (λ some. put-all comment_key (λ (c : Comment). has_node v.rows c.node) new (without_comment node v.comments) there left);
      appls = n.appls;
    })) s

-- the creators of a file

-- of keys with one end the beginnings stand as the keys do
pub front-before : (a b : List ℕ) (n : ℕ) → length a ≡ length b → stands_before (a ++ n ∷ []) (b ++ n ∷ []) ≡ true → stands_before a b ≡ true
front-before [] [] n same h = absurd (itself n h)
  where
    itself : (n : ℕ) → stands_before (n ∷ []) (n ∷ []) ≡ true → ⊥
    itself n h = let k : n < n = ltb-true n n (sym (one-before n n) ∙ h) in omega arith
front-before [] (y ∷ ys) n same h = absurd (omega arith)
front-before (x ∷ xs) [] n same h = absurd (omega arith)
front-before (x ∷ xs) (y ∷ ys) n same h = go (nat_lt x y) (x == y) refl refl (front-before xs ys n (omega arith))
  where
    go : (less equal : Bool) → nat_lt x y ≡ less → (x == y) ≡ equal → (stands_before (xs ++ n ∷ []) (ys ++ n ∷ []) ≡ true → stands_before xs ys ≡ true) → stands_before (x ∷ xs) (y ∷ ys) ≡ true
    go true equal e f rest = simp e
    go false true e f rest = let k : stands_before (xs ++ n ∷ []) (ys ++ n ∷ []) ≡ true = simp (e, f) at h in simp (e, f) (rest k)
    go false false e f rest = let k : false ≡ true = simp (e, f) at h in absurd (cc)

pub creators-rise : (ms : List Appl) (node : ℕ) → rises appl_key ms ≡ true → list_all is_appl ms ≡ true → rises (λ creator. creator) (creators_of node ms) ≡ true
creators-rise ms node up formed = by (filter is ms) (keys-filter appl_key is ms up) (all-filter is_appl is ms formed) (all-kept is ms)
  where
    is : Appl → Bool
    is appl = appl.node == node

    one : (a b : Appl) → is_appl a ≡ true → is a ≡ true → is_appl b ≡ true → is b ≡ true → stands_before (appl_key a) (appl_key b) ≡ true → stands_before a.creator b.creator ≡ true
    one a b fa na fb nb before =
        let la : length a.creator ≡ 4 = eqb-true (length a.creator) 4 fa in
        let lb : length b.creator ≡ 4 = eqb-true (length b.creator) 4 fb in
        front-before a.creator b.creator node (la ∙ sym lb)
        ((λ i. stands_before (a.creator ++ sym (eqb-true a.node node na) i ∷ []) (b.creator ++ sym (eqb-true b.node node nb) i ∷ [])) ∙ before)

    behind : (a : Appl) (l : List Appl) → is_appl a ≡ true → is a ≡ true → list_all is_appl l ≡ true → list_all is l ≡ true → list_all (λ b. stands_before (appl_key a) (appl_key b)) l ≡ true
        → list_all (λ creator. stands_before a.creator creator) (map (λ (b : Appl). b.creator) l) ≡ true
    behind a [] fa na fl nl up = refl
    behind a (b ∷ l) fa na fl nl up =
        let e = and_parts (is_appl b) (list_all is_appl l) fl in
        let f = and_parts (is b) (list_all is l) nl in
        let g = and_parts (stands_before (appl_key a) (appl_key b)) (list_all (λ q. stands_before (appl_key a) (appl_key q)) l) up in
        and_from (stands_before a.creator b.creator) (list_all (λ creator. stands_before a.creator creator) (map (λ (q : Appl). q.creator) l)) (one a b fa na e.0 f.0 g.0) (behind a l fa na e.1 f.1 g.1)

    by : (l : List Appl) → rises appl_key l ≡ true → list_all is_appl l ≡ true → list_all is l ≡ true → rises (λ creator. creator) (map (λ (a : Appl). a.creator) l) ≡ true
    by [] up fl nl = refl
    by (a ∷ l) up fl nl =
        let e = and_parts (list_all (λ q. stands_before (appl_key a) (appl_key q)) l) (rises appl_key l) up in
        let f = and_parts (is_appl a) (list_all is_appl l) fl in
        let g = and_parts (is a) (list_all is l) nl in
        and_from (list_all (λ creator. stands_before a.creator creator) (map (λ (q : Appl). q.creator) l)) (rises (λ creator. creator) (map (λ (q : Appl). q.creator) l)) (behind a l f.0 g.0 f.1 g.1 e.0) (by l e.1 f.1 g.1)

-- icons and their keys

pub icon-parts : (creator kind bits : List ℕ) (icon_kind tag : ℕ) → length creator ≡ code_size → length kind ≡ code_size
    → icon_under (creator ++ kind ++ icon_kind ∷ []) tag bits ≡ record { creator = creator; kind = kind; icon_kind = icon_kind; tag = tag; bits = take longest_icon bits }
icon-parts (a ∷ b ∷ c ∷ d ∷ []) (e ∷ f ∷ g ∷ h ∷ []) bits icon_kind tag p q = refl
icon-parts [] kind bits icon_kind tag p q = absurd (omega arith)
icon-parts (a ∷ []) kind bits icon_kind tag p q = absurd (omega arith)
icon-parts (a ∷ b ∷ []) kind bits icon_kind tag p q = absurd (omega arith)
icon-parts (a ∷ b ∷ c ∷ []) kind bits icon_kind tag p q = absurd (omega arith)
icon-parts (a ∷ b ∷ c ∷ d ∷ x ∷ l) kind bits icon_kind tag p q = absurd (omega arith)
icon-parts (a ∷ b ∷ c ∷ d ∷ []) [] bits icon_kind tag p q = absurd (omega arith)
icon-parts (a ∷ b ∷ c ∷ d ∷ []) (e ∷ []) bits icon_kind tag p q = absurd (omega arith)
icon-parts (a ∷ b ∷ c ∷ d ∷ []) (e ∷ f ∷ []) bits icon_kind tag p q = absurd (omega arith)
icon-parts (a ∷ b ∷ c ∷ d ∷ []) (e ∷ f ∷ g ∷ []) bits icon_kind tag p q = absurd (omega arith)
icon-parts (a ∷ b ∷ c ∷ d ∷ []) (e ∷ f ∷ g ∷ h ∷ x ∷ l) bits icon_kind tag p q = absurd (omega arith)

listed-found : {A : Type 0} (key : A → List ℕ) (of : A → Bool) (xs : List A) (i : ℕ) (s : A) → rises key xs ≡ true → slice_get (filter of xs) i ≡ Some s → at_key key (key s) xs ≡ Some s
listed-found key of [] i s up listed = absurd (cc)
listed-found {A} key of (x ∷ xs) i s up listed =
    let e = and_parts (list_all (λ y. stands_before (key x) (key y)) xs) (rises key xs) up in
    cond_both (of x) (x ∷ filter of xs) (filter of xs) (λ l. slice_get l i ≡ Some s → at_key key (key s) (x ∷ xs) ≡ Some s)
    (λ kept at. first i at (λ j later. listed-found key of xs j s e.1 later) e.0)
    (λ gone at. behind i at (listed-found key of xs i s e.1 at) e.0)
    listed
  where
    behind : (j : ℕ) → slice_get (filter of xs) j ≡ Some s → at_key key (key s) xs ≡ Some s → list_all (λ y. stands_before (key x) (key y)) xs ≡ true → at_key key (key s) (x ∷ xs) ≡ Some s
    behind j at rest all =
        cond_both (bytes_eq (key x) (key s)) (Some x) (at_key key (key s) xs) (λ o. o ≡ Some s)
        (λ same. absurd (never (bytes_eq (key x) (key s)) same (before-differs (key x) (key s) (all-place (λ y. stands_before (key x) (key y)) (filter of xs) j s (all-filter (λ y. stands_before (key x) (key y)) of xs all) at))))
        (λ other. rest)

    first : (j : ℕ) → slice_get (x ∷ filter of xs) j ≡ Some s → ((j : ℕ) → slice_get (filter of xs) j ≡ Some s → at_key key (key s) xs ≡ Some s) → list_all (λ y. stands_before (key x) (key y)) xs ≡ true → at_key key (key s) (x ∷ xs) ≡ Some s
    first zero at rest all = let same : x ≡ s = cc in cond-true (bytes_eq (key x) (key s)) (Some x) (at_key key (key s) xs) (bytes_true (key x) (key s) (ap key same)) ∙ at
    first (suc j) at rest all = behind j at (rest j at) all

pub icon-listed : (icons : List Icon) (creator : List ℕ) (n : ℕ) (icon : Icon) → rises icon_key icons ≡ true → nth_icon creator n icons ≡ Some icon → icon_at (icon_key icon) icons ≡ Some icon
icon-listed icons creator n icon up =
    cond_both (n == 0) None (slice_get (icons_of creator icons) (n - 1)) (λ o. o ≡ Some icon → icon_at (icon_key icon) icons ≡ Some icon)
    (λ none at. absurd (cc))
    (λ some at. listed-found icon_key (λ icon. bytes_eq icon.creator creator) icons (n - 1) icon up at)
