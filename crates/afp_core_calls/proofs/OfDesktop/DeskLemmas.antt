-- Comments, icons and mappings that are told.
use Rattle.std.proofs.Common.{◌≡◌, ◌∙◌, ap, sym, refl, subst, ℕ, ◌==◌, ◌<◌, ◌≤◌, ◌-◌, cond, not, ◌&&◌, ◌||◌, Bool, true, false, List, [], ◌∷◌, ◌++◌, length, Option, Some, None, arith, if◌then◌else◌}
use Rattle.std.specs.Prelude.{IfSome, bytes_eq, drop, max, nat_le, option_map, slice_get, slice_index, take}
use Rattle.std.specs.Option.{option_copied}
use Rattle.std.specs.List.{find, list_all}
use Rattle.std.proofs.lemmas.Bool.{and_parts, eqb-true, leb-true}
use Rattle.afp_base.proofs.Facts.{some-none}
use Rattle.std.proofs.lemmas.Option.{same_Some}
use Rattle.afp_base.proofs.ListFacts.{all-filter, all-place, find-all}
use Rattle.afp_base.specs.declared.ids.NodeId.{NodeId}
use Rattle.afp_bitmap.specs.declared.params.Values.{Values}
use Rattle.afp_replies.specs.Replies.{canonical_reply}
use Rattle.afp_replies.specs.declared.reply.Reply.TheVariants as replies
use Rattle.afp_serial.specs.Appls.{appl_reply, get_appl_reply}
use Rattle.afp_serial.specs.Icons.{get_icon_info_reply}
use Rattle.afp_core_calls.specs.desktop.lemma.ListedIcons.{IsListed, IsListedIcon}
use Rattle.afp_core_calls.specs.desktop.lemma.Mappings.{FindsMapping, IsMapping}
use Rattle.desktop_db.specs.Kept.{shown_appl, shown_icon}
use Rattle.volume_spec.proofs.SeenRows.{file-found}
use Rattle.volume_spec.specs.Appls.{get_appl_mapping, get_appl_values}
use Rattle.volume_spec.specs.Desktop.{appls_of, comment_at, icon_at, icon_of, icon_under, icons_of, nth_appl, nth_from_one, nth_icon, IsDesktop}
use Rattle.volume_spec.specs.DesktopLaws.{IconHasParts, ListedIconIsFound}
use Rattle.volume_spec.specs.OpenFork.{file_of, fork_values}
use Rattle.volume_spec.specs.Shared.{Opened}
use Rattle.volume_spec.specs.SoundVolume.{code_size, has_file, has_node, has_noted_nodes, icon_key, is_comment, is_icon, longest_comment, longest_icon, IsSoundVolume}
use Rattle.volume_spec.specs.VolumeState.{Comment, Icon, Appl, Row, VolumeState}
use Rattle.volume_spec.specs.Walk.{row_at}
use Rattle.volume_tree.proofs.Showing.{ids-differ}
use denote.Ref.{Bor}

-- the row of a file
row-of : (rows : List Row) (node : ℕ) → has_file rows node ≡ true → (file : Row) × (row_at rows node ≡ Some file)
unfolding row_at
row-of [] node h = absurd cc
row-of (row ∷ rows) node h = by (row.id == node) h (row-of rows node)
  where
    by : (b : Bool) → ((b && not row.dir) || has_file rows node) ≡ true → (has_file rows node ≡ true → (file : Row) × (find (λ r. r.id == node) rows ≡ Some file))
        → (file : Row) × (cond b (Some row) (find (λ r. r.id == node) rows) ≡ Some file)
    by true h rest = (row, refl)
    by false h rest = rest h

-- an element at a place that is counted from 1 is one of those that pass
nth-passes : {A : Type 0} (p : A → Bool) (xs : List A) (n : ℕ) (a : A) → list_all p xs ≡ true → nth_from_one xs n ≡ Some a → p a ≡ true
nth-passes p xs n a all at = by (n == 0) at
  where
    by : (b : Bool) → (if b then None else slice_get xs (n - 1)) ≡ Some a → p a ≡ true
    by true h = absurd (some-none a (sym h))
    by false h = all-place p xs (n - 1) a all h

-- the file of a mapping of a creator is there
noted : (rows : List Row) (appls : List Appl) (creator : List ℕ) (n : ℕ) (a : Appl) → list_all (λ appl. has_file rows appl.node) appls ≡ true → nth_appl creator n appls ≡ Some a → has_file rows a.node ≡ true
noted rows appls creator n a all at = nth-passes (λ (x : Appl). has_file rows x.node) (appls_of creator appls) n a (all-filter (λ (x : Appl). has_file rows x.node) (λ x. bytes_eq x.creator creator) appls all) at

-- a comment that is there has at most 199 bytes
comment-bound : (c : Comment) → is_comment c ≡ true → length c.text < 256
comment-bound c formed = omega (arith, leb-true (length c.text) longest_comment (and_parts (nat_le 1 (length c.text)) (nat_le (length c.text) longest_comment) formed).1)

pub comment-short : (comments : List Comment) (icons : List Icon) (appls : List Appl) (node : ℕ) (lent : Option (Bor (List ℕ))) → IsDesktop comments icons appls
    → option_copied lent ≡ option_map (λ (c : Comment). c.text) (comment_at node comments) → IfSome lent (λ text. length text.now < 256)
comment-short comments icons appls node None desktop is = tt
comment-short comments icons appls node (Some text) desktop is = by (comment_at node comments) refl is
  where
    by : (o : Option Comment) → comment_at node comments ≡ o → Some text.now ≡ option_map (λ (c : Comment). c.text) o → length text.now < 256
    by None at same = cc
    by (Some c) at same =
        let bound : length c.text < 256 = comment-bound c (find-all (λ (x : Comment). x.node == node) is_comment comments c at desktop.comments_formed) in
        let e : text.now ≡ c.text = cc in
        omega (arith, bound, ap length e)

-- the file of a mapping that is there
pub mapping-found : (v : VolumeState) (creator : List ℕ) (index : ℕ) (result : Option (NodeId × ℕ)) → IsSoundVolume v
    → option_map shown_appl result ≡ option_map (λ (a : Appl). (a.node, a.tag)) (nth_appl creator (max 1 index) v.appls) → FindsMapping v creator index result
unfolding get_appl_mapping has_noted_nodes
mapping-found v creator index result s is = by result (nth_appl creator (max 1 index) v.appls) refl is
  where
    file-noted : (n : ℕ) (a : Appl) → nth_appl creator n v.appls ≡ Some a → has_file v.rows a.node ≡ true
    file-noted n a at = noted v.rows v.appls creator n a (and_parts (list_all (λ (comment : Comment). has_node v.rows comment.node) v.comments) (list_all (λ (appl : Appl). has_file v.rows appl.node) v.appls) s.notes).1 at

    by : (r : Option (NodeId × ℕ)) (o : Option Appl) → nth_appl creator (max 1 index) v.appls ≡ o → option_map shown_appl r ≡ option_map (λ (a : Appl). (a.node, a.tag)) o → FindsMapping v creator index r
    by None None at same = at
    by None (Some a) at same = cc
    by (Some r) None at same = cc
    by (Some r) (Some a) at same =
        let e = same_Some (r.0.0, r.1) (a.node, a.tag) same in
        let node : r.0.0 ≡ a.node = ap (λ (p : ℕ × ℕ). p.0) e in
        let has : has_file v.rows r.0.0 ≡ true = subst (λ (n : ℕ). has_file v.rows n ≡ true) (sym node) (file-noted (max 1 index) a at) in
        let row = row-of v.rows r.0.0 has in
        record { appl = a; found = at; node_is = node; tag_is = ap (λ (p : ℕ × ℕ). p.1) e; has = has; file = row.0; there = row.1; is_file = file-found v.rows r.0.0 row.0 (ids-differ v s) row.1 has }

-- what is told of it
pub appl-told : (v : VolumeState) (opens : List Opened) (creator : List ℕ) (index bits node tag : ℕ) (before after : List ℕ) → IsMapping v creator index node tag
    → ((row : Row) → row_at v.rows node ≡ Some row → after ≡ before ++ canonical_reply (replies.Appl bits tag (fork_values opens bits row)))
    → after ≡ before ++ canonical_reply (get_appl_reply bits v opens (get_appl_mapping v creator index))
unfolding get_appl_values
appl-told v opens creator index bits node tag before after m told =
    told m.file m.there
    ∙ ap (λ (n : ℕ). before ++ canonical_reply (replies.Appl bits n (fork_values opens bits m.file))) m.tag_is
    ∙ ap (λ (o : Option Values). before ++ canonical_reply (appl_reply bits m.appl.tag o)) (sym values)
    ∙ ap (λ (o : Option Appl). before ++ canonical_reply (get_appl_reply bits v opens o)) (sym m.found)
  where
    values : option_map (fork_values opens bits) (file_of (row_at v.rows m.appl.node)) ≡ Some (fork_values opens bits m.file)
    values =
        ap (λ (n : ℕ). option_map (fork_values opens bits) (file_of (row_at v.rows n))) (sym m.node_is)
        ∙ ap (λ (o : Option Row). option_map (fork_values opens bits) (file_of o)) m.there
        ∙ ap (λ (d : Bool). option_map (fork_values opens bits) (if d then None else Some m.file)) m.is_file

-- the parts of an icon that is formed
icon-parts : (icon : Icon) → is_icon icon ≡ true → (length icon.creator ≡ 4) × (length icon.kind ≡ 4) × (length icon.bits < 65536)
icon-parts icon formed =
    let parts = and_parts (length icon.creator == code_size) ((length icon.kind == code_size) && nat_le (length icon.bits) longest_icon) formed in
    let more = and_parts (length icon.kind == code_size) (nat_le (length icon.bits) longest_icon) parts.1 in
    let few : length icon.bits ≤ longest_icon = leb-true (length icon.bits) longest_icon more.1 in
    (eqb-true (length icon.creator) code_size parts.0, eqb-true (length icon.kind) code_size more.0, omega (arith, few))

-- the icon under the bytes of its key
key-parts : (icon : Icon) → is_icon icon ≡ true → IconHasParts → icon_under (icon_key icon) icon.tag icon.bits ≡ record icon { bits = take longest_icon icon.bits }
key-parts icon formed law = let parts = icon-parts icon formed in law icon.creator icon.kind icon.bits icon.icon_kind icon.tag parts.0 parts.1

-- an icon that is listed is formed
listed-formed : (icons : List Icon) (creator : List ℕ) (n : ℕ) (icon : Icon) → list_all is_icon icons ≡ true → nth_icon creator n icons ≡ Some icon → is_icon icon ≡ true
listed-formed icons creator n icon all at = nth-passes is_icon (icons_of creator icons) n icon (all-filter is_icon (λ x. bytes_eq x.creator creator) icons all) at

-- it is found under its key
pub icon-found : (comments : List Comment) (icons : List Icon) (appls : List Appl) (creator : List ℕ) (n : ℕ) (key : List ℕ) (lent : ℕ × Bor (List ℕ)) (icon : Icon) → IsDesktop comments icons appls → IconHasParts → ListedIconIsFound
    → nth_icon creator n icons ≡ Some icon → key ≡ icon_key icon → option_map shown_icon (Some lent) ≡ option_map (λ (i : Icon). (i.tag, i.bits)) (icon_at key icons) → IsListed icons creator n (Some (key, lent.0, lent.1))
icon-found comments icons appls creator n key lent icon desktop parts found listed key_is is =
    let formed = listed-formed icons creator n icon desktop.icons_formed listed in
    let there : icon_at key icons ≡ Some icon = ap (λ k. icon_at k icons) key_is ∙ found comments icons appls creator n icon desktop listed in
    let e = same_Some (lent.0, lent.1.now) (icon.tag, icon.bits) (is ∙ ap (option_map (λ (i : Icon). (i.tag, i.bits))) there) in
    let bits : lent.1.now ≡ icon.bits = ap (λ (p : ℕ × List ℕ). p.1) e in
    record {
      icon = icon;
      listed = listed;
      tag_is = ap (λ (p : ℕ × List ℕ). p.0) e;
      kind_is = ap (λ k. take 4 (drop 4 k)) key_is ∙ ap (λ (i : Icon). i.kind) (key-parts icon formed parts);
      icon_kind_is = ap (λ k. slice_index k (8)) key_is ∙ ap (λ (i : Icon). i.icon_kind) (key-parts icon formed parts);
      bits_are = bits;
      short = subst (λ (b : List ℕ). length b < 65536) (sym bits) (icon-parts icon formed).2;
    }

-- the icon of a key
pub key-listed : (icons : List Icon) (creator : List ℕ) (n : ℕ) (key : List ℕ) → Some key ≡ option_map icon_key (nth_icon creator n icons) → (icon : Icon) × (nth_icon creator n icons ≡ Some icon) × (key ≡ icon_key icon)
key-listed icons creator n key is = by (nth_icon creator n icons) refl is
  where
    by : (o : Option Icon) → nth_icon creator n icons ≡ o → Some key ≡ option_map icon_key o → (icon : Icon) × (nth_icon creator n icons ≡ Some icon) × (key ≡ icon_key icon)
    by None at same = absurd (some-none key same)
    by (Some icon) at same = (icon, at, same_Some key (icon_key icon) same)

pub none-listed : (icons : List Icon) (creator : List ℕ) (n : ℕ) → None ≡ option_map icon_key (nth_icon creator n icons) → nth_icon creator n icons ≡ None
none-listed icons creator n is = by (nth_icon creator n icons) is
  where
    by : (o : Option Icon) → None ≡ option_map icon_key o → o ≡ None
    by None same = refl
    by (Some icon) same = absurd (some-none (icon_key icon) (sym same))

-- what is told of it
pub info-told : (icons : List Icon) (creator : List ℕ) (n : ℕ) (key : List ℕ) (tag : ℕ) (bits before after : List ℕ) → IsListedIcon icons creator n key tag bits
    → after ≡ before ++ canonical_reply (replies.IconInfo tag (take 4 (drop 4 key)) (slice_index key (8)) (length bits)) → after ≡ before ++ canonical_reply (get_icon_info_reply (nth_icon creator n icons))
info-told icons creator n key tag bits before after i told =
    told ∙ (λ j. before ++ canonical_reply (replies.IconInfo (i.tag_is j) (i.kind_is j) (i.icon_kind_is j) (length (i.bits_are j))))
    ∙ ap (λ (o : Option Icon). before ++ canonical_reply (get_icon_info_reply o)) (sym i.listed)

-- the icon that FPAddIcon asks to be put
pub icon-asked : (creator kind key bits piece : List ℕ) (icon_kind tag : ℕ) → length creator ≡ 4 → length kind ≡ 4 → key ≡ creator ++ kind ++ icon_kind ∷ [] → bits ≡ piece → IconHasParts
    → icon_under key tag bits ≡ icon_of creator kind icon_kind tag piece
icon-asked creator kind key bits piece icon_kind tag four_creator four_kind key_is bits_are law =
    (λ i. icon_under (key_is i) tag (bits_are i)) ∙ law creator kind piece icon_kind tag four_creator four_kind
