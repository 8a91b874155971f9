-- The desktop database of a volume, put in again one after the other.
use Rattle.std.proofs.Common.{◌≡◌, ◌∙◌, ℕ, zero, suc, ◌+◌, ◌<◌, ◌≤◌, Bool, true, false, cond, not, List, [], ◌∷◌, ◌++◌, map, length, take, refl, sym, ap, subst, arith, append_assoc}
use Rattle.std.specs.Prelude.{nat_le, ◌==◌, ◌&&◌, bytes_eq, flat_map, is_none}
use Rattle.std.specs.List.{filter, list_all}
use Rattle.std.specs.Cmp.{tied_itself}
use Rattle.std.specs.Cmp.Lexicographic.{nat_list_cmp_total}
use Rattle.std.specs.Ordering.{is_lt}
use Rattle.std.proofs.lemmas.Slice.Eq.{bytes_eq-Decides}
use Rattle.std.proofs.lemmas.Bool.{and_from, eqb-true}
use Rattle.std.proofs.lemmas.List.{append-nil, length-append}
use Rattle.volume_spec.specs.VolumeState.{Comment, Icon, Appl, VolumeState}
use Rattle.volume_spec.specs.Order.{put_in, rises, stands_before}
use Rattle.volume_spec.specs.SoundVolume.{appl_key, code_size, icon_key, is_comment, is_icon, longest_comment, longest_icon, most_appls, most_icons}
use Rattle.volume_spec.specs.Desktop.{IsDesktop, appl_at, comment_key, has_no_appl_room, has_no_icon_room, icon_at, icon_under, with_appl, with_comment, with_icon}
use Rattle.volume_spec.specs.DesktopLaws.{IconHasParts}
use Rattle.volume_keeper_records.specs.declared.rows.TableRow.{TableRow}
use Rattle.volume_keeper_records.specs.declared.rows.TableRow.TheVariants as row
use Rattle.volume_keeper_records.specs.Records.{version}
use Rattle.volume_keeper_records.specs.Image.{fork_blocks, node_of, rows_of, tables_of}
use Rattle.volume_keeper.specs.loading.lemma.Rebuilt.{HasApplRoom, HasIconRoom, HaveRoom, appls_with, comments_with, icons_with, with_all}
use Rattle.afp_base.proofs.Facts.{left_true, right_true}
use Rattle.afp_base.proofs.ListFacts.{all-always, all-snoc, all-weaker, filter-all}
use Rattle.volume_spec.proofs.Ordered.{not-back}

-- ---- the order of keys

apart : (a b : List ℕ) → stands_before a b ≡ true → a ≡ b → ⊥
apart a b e h = absurd (let k : true ≡ false = sym e ∙ ap (λ x. stands_before x b) h ∙ ap is_lt (tied_itself nat_list_cmp_total b) in cc k)

pub not_equal : (a b : List ℕ) → stands_before a b ≡ true → bytes_eq a b ≡ false
not_equal a b e = elim (bytes_eq a b) as (λ t. bytes_eq a b ≡ t → t ≡ false) [
  | true ↦ λ t. absurd (apart a b e ((bytes_eq-Decides a b).0 t))
  | false ↦ λ t. refl
] refl

-- ---- lists

whole : (n : ℕ) (xs : List ℕ) → length xs ≤ n → take n xs ≡ xs
whole zero [] h = refl
whole zero (x ∷ xs) h = absurd (omega arith)
whole (suc n) [] h = refl
whole (suc n) (x ∷ xs) h = ap (λ l. x ∷ l) (whole n xs (omega arith))

-- ---- one list, put in by rising keys

module _ {A : Type 0} (key : A → List ℕ) where
  at_end : (x : A) (xs : List A) → list_all (λ d. stands_before (key d) (key x)) xs ≡ true → put_in key x xs ≡ xs ++ x ∷ []
  at_end x [] e = refl
  at_end x (y ∷ ys) e =
      ap (λ b. cond b (x ∷ y ∷ ys) (y ∷ put_in key x ys)) (not-back (key y) (key x) (left_true (stands_before (key y) (key x)) _ e))
      ∙ ap (λ l. y ∷ l) (at_end x ys (right_true (stands_before (key y) (key x)) _ e))

  without_none : (x : A) (xs : List A) → list_all (λ d. stands_before (key d) (key x)) xs ≡ true → filter (λ d. not (bytes_eq (key d) (key x))) xs ≡ xs
  without_none x xs e = filter-all (λ d. not (bytes_eq (key d) (key x))) xs (all-weaker (λ d. stands_before (key d) (key x)) (λ d. not (bytes_eq (key d) (key x))) xs (λ d h. ap not (not_equal (key d) (key x) h)) e)

  later_too : (x : A) (done xs : List A) → list_all (λ y. list_all (λ d. stands_before (key d) (key y)) done) xs ≡ true → list_all (λ y. stands_before (key x) (key y)) xs ≡ true
      → list_all (λ y. list_all (λ d. stands_before (key d) (key y)) (done ++ x ∷ [])) xs ≡ true
  later_too x done [] e h = refl
  later_too x done (y ∷ ys) e h = and_from _ _
      (all-snoc (λ d. stands_before (key d) (key y)) done x (left_true (list_all (λ d. stands_before (key d) (key y)) done) _ e) (left_true (stands_before (key x) (key y)) _ h))
      (later_too x done ys (right_true (list_all (λ d. stands_before (key d) (key y)) done) _ e) (right_true (stands_before (key x) (key y)) _ h))

  module _ (put : TableRow → List A → List A) (make : A → TableRow) (good : A → Bool)
      (step : (x : A) (done : List A) → good x ≡ true → list_all (λ d. stands_before (key d) (key x)) done ≡ true → put (make x) done ≡ done ++ x ∷ []) where
    all_in : (done xs : List A) → list_all good xs ≡ true → rises key xs ≡ true → list_all (λ y. list_all (λ d. stands_before (key d) (key y)) done) xs ≡ true → with_all put (map make xs) done ≡ done ++ xs
    all_in done [] g r e = sym (append-nil done)
    all_in done (x ∷ xs) g r e =
        ap (with_all put (map make xs)) (step x done (left_true (good x) _ g) (left_true (list_all (λ d. stands_before (key d) (key x)) done) _ e))
        ∙ all_in (done ++ x ∷ []) xs (right_true (good x) _ g) (right_true (list_all (λ y. stands_before (key x) (key y)) xs) _ r)
        (later_too x done xs (right_true (list_all (λ d. stands_before (key d) (key x)) done) _ e) (left_true (list_all (λ y. stands_before (key x) (key y)) xs) _ r))
        ∙ append_assoc done (x ∷ []) xs

    none_done : (xs : List A) → list_all (λ y. list_all (λ d. stands_before (key d) (key y)) []) xs ≡ true
    none_done [] = refl
    none_done (x ∷ xs) = none_done xs

    pub list_again : (xs : List A) → list_all good xs ≡ true → rises key xs ≡ true → with_all put (map make xs) [] ≡ xs
    list_again xs g r = all_in [] xs g r (none_done xs)

    module _ (HasRoom : TableRow → List A → Type 0) (most : ℕ) (room : (x : A) (done : List A) → length done < most → HasRoom (make x) done) where
      room_in : (done xs : List A) → list_all good xs ≡ true → rises key xs ≡ true → list_all (λ y. list_all (λ d. stands_before (key d) (key y)) done) xs ≡ true → length done + length xs ≤ most
          → HaveRoom HasRoom put (map make xs) done
      room_in done [] g r e few = tt
      room_in done (x ∷ xs) g r e few =
          let longer : length (done ++ x ∷ []) ≡ length done + 1 = length-append done (x ∷ []) in (
            room x done (omega arith),
            subst (HaveRoom HasRoom put (map make xs)) (sym (step x done (left_true (good x) _ g) (left_true (list_all (λ d. stands_before (key d) (key x)) done) _ e)))
                (room_in (done ++ x ∷ []) xs (right_true (good x) _ g) (right_true (list_all (λ y. stands_before (key x) (key y)) xs) _ r)
                (later_too x done xs (right_true (list_all (λ d. stands_before (key d) (key x)) done) _ e) (left_true (list_all (λ y. stands_before (key x) (key y)) xs) _ r))
                (grind (arith, longer, few))),
          )

      pub list_has_room : (xs : List A) → list_all good xs ≡ true → rises key xs ≡ true → nat_le (length xs) most ≡ true → HaveRoom HasRoom put (map make xs) []
      list_has_room xs g r few = room_in [] xs g r (none_done xs) (grind (arith, few))

-- ---- each kind

comment_in : (c : Comment) (done : List Comment) → is_comment c ≡ true → list_all (λ d. stands_before (comment_key d) (comment_key c)) done ≡ true → with_comment c.node c.text done ≡ done ++ c ∷ []
comment_in c done g e =
    let some : nat_le 1 (length c.text) ≡ true = left_true (nat_le 1 (length c.text)) _ g in
    let short : nat_le (length c.text) longest_comment ≡ true = right_true (nat_le 1 (length c.text)) _ g in
    let few : length c.text ≤ 199 = grind (arith, short) in
    let not_empty : (length c.text == 0) ≡ false = grind (arith, some) in
    let others : filter (λ (d : Comment). not (d.node == c.node)) done ≡ done = filter-all (λ (d : Comment). not (d.node == c.node)) done
    (all-weaker (λ d. stands_before (comment_key d) (comment_key c)) (λ (d : Comment). not (d.node == c.node)) done (λ d h. ap not (differ d h)) e) in
    ap (λ b. cond b (filter (λ (d : Comment). not (d.node == c.node)) done) (put_in comment_key (record { node = c.node; text = take longest_comment c.text }) (filter (λ (d : Comment). not (d.node == c.node)) done))) not_empty
    ∙ (λ i. put_in comment_key (record { node = c.node; text = whole 199 c.text few i }) (others i))
    ∙ at_end comment_key c done e
  where
    differ : (d : Comment) → stands_before (comment_key d) (comment_key c) ≡ true → (d.node == c.node) ≡ false
    differ d h = elim (d.node == c.node) as (λ t. d.node == c.node ≡ t → t ≡ false) [
      | true ↦ λ t. absurd (apart (comment_key d) (comment_key c) h (ap (λ (n : ℕ). n ∷ []) (eqb-true d.node c.node t)))
      | false ↦ λ t. refl
    ] refl

appl_in : (a : Appl) (done : List Appl) → list_all (λ d. stands_before (appl_key d) (appl_key a)) done ≡ true → with_appl a done ≡ done ++ a ∷ []
appl_in a done e = ap (put_in appl_key a) (without_none appl_key a done e) ∙ at_end appl_key a done e

module _ (parts : IconHasParts) where
  icon_is : (x : Icon) → is_icon x ≡ true → icon_under (icon_key x) x.tag x.bits ≡ x
  icon_is x g =
      let creator : length x.creator ≡ code_size = eqb-true (length x.creator) code_size (left_true (length x.creator == code_size) _ g) in
      let rest = right_true (length x.creator == code_size) _ g in
      let kind : length x.kind ≡ code_size = eqb-true (length x.kind) code_size (left_true (length x.kind == code_size) _ rest) in
      let short : nat_le (length x.bits) longest_icon ≡ true = right_true (length x.kind == code_size) _ rest in
      let few : length x.bits ≤ 65535 = grind (arith, short) in
      parts x.creator x.kind x.bits x.icon_kind x.tag creator kind ∙ (λ i. record x { bits = whole 65535 x.bits few i })

  icon_in : (x : Icon) (done : List Icon) → is_icon x ≡ true → list_all (λ d. stands_before (icon_key d) (icon_key x)) done ≡ true → with_icon (icon_under (icon_key x) x.tag x.bits) done ≡ done ++ x ∷ []
  icon_in x done g e = ap (λ y. with_icon y done) (icon_is x g) ∙ ap (put_in icon_key x) (without_none icon_key x done e) ∙ at_end icon_key x done e

-- ---- all rows

with-append : {A : Type 0} (put : TableRow → A → A) (xs ys : List TableRow) (a : A) → with_all put (xs ++ ys) a ≡ with_all put ys (with_all put xs a)
with-append put [] ys a = refl
with-append put (x ∷ xs) ys a = with-append put xs ys (put x a)

with-none : {A B : Type 0} (put : TableRow → A → A) (make : B → TableRow) → ((b : B) (a : A) → put (make b) a ≡ a) → (xs : List B) (a : A) → with_all put (map make xs) a ≡ a
with-none put make none [] a = refl
with-none put make none (x ∷ xs) a = ap (with_all put (map make xs)) (none x a) ∙ with-none put make none xs a

have-append : {A : Type 0} (HasRoom : TableRow → A → Type 0) (put : TableRow → A → A) (xs ys : List TableRow) (a : A) → HaveRoom HasRoom put xs a → HaveRoom HasRoom put ys (with_all put xs a) → HaveRoom HasRoom put (xs ++ ys) a
have-append HasRoom put [] ys a h k = k
have-append HasRoom put (x ∷ xs) ys a h k = (h.0, have-append HasRoom put xs ys (put x a) h.1 k)

have-none : {A B : Type 0} (HasRoom : TableRow → A → Type 0) (put : TableRow → A → A) (make : B → TableRow) → ((b : B) (a : A) → HasRoom (make b) a) → (xs : List B) (a : A) → HaveRoom HasRoom put (map make xs) a
have-none HasRoom put make none [] a = tt
have-none HasRoom put make none (x ∷ xs) a = (none x a, have-none HasRoom put make none xs (put (make x) a))

not_full : (few most : ℕ) → few < most → nat_le most few ≡ false
not_full few most less = grind (arith, less)

icon_room : (x : Icon) (done : List Icon) → length done < most_icons → has_no_icon_room (icon_key x) done ≡ false
icon_room x done less = ap (λ b. b && is_none (icon_at (icon_key x) done)) (not_full (length done) most_icons less)

appl_room : (a : Appl) (done : List Appl) → length done < most_appls → has_no_appl_room a.creator a.node done ≡ false
appl_room a done less = ap (λ b. b && is_none (appl_at a.creator a.node done)) (not_full (length done) most_appls less)

module _ (v : VolumeState) where
  abbrev nodes : List TableRow
  nodes = map (λ n. row.Node n) (map (node_of version) v.rows)

  abbrev blocks : List TableRow
  blocks = map (λ b. row.Block b) (flat_map fork_blocks v.rows)

  abbrev comments : List TableRow
  comments = map (λ c. row.Comment c) v.comments

  abbrev icons : List TableRow
  icons = map (λ i. row.Icon i) v.icons

  abbrev appls : List TableRow
  appls = map (λ a. row.Appl a) v.appls

  module _ {A : Type 0} (put : TableRow → List A → List A) (head : put (row.Head (tables_of version v).head) [] ≡ []) where
    parts_of : with_all put (rows_of (tables_of version v)) [] ≡ with_all put appls (with_all put icons (with_all put comments (with_all put blocks (with_all put nodes []))))
    parts_of =
        ap (with_all put (nodes ++ (blocks ++ (comments ++ (icons ++ appls))))) head
        ∙ with-append put nodes (blocks ++ (comments ++ (icons ++ appls))) []
        ∙ with-append put blocks (comments ++ (icons ++ appls)) (with_all put nodes [])
        ∙ with-append put comments (icons ++ appls) (with_all put blocks (with_all put nodes []))
        ∙ with-append put icons appls (with_all put comments (with_all put blocks (with_all put nodes [])))

  module _ (desktop : IsDesktop v.comments v.icons v.appls) where
    pub comments_again : with_all comments_with (rows_of (tables_of version v)) [] ≡ v.comments
    comments_again =
        parts_of comments_with refl
        ∙ with-none comments_with (λ a. row.Appl a) (λ a l. refl) v.appls _
        ∙ with-none comments_with (λ i. row.Icon i) (λ i l. refl) v.icons _
        ∙ ap (with_all comments_with comments) (with-none comments_with (λ b. row.Block b) (λ b l. refl) (flat_map fork_blocks v.rows) _ ∙ with-none comments_with (λ n. row.Node n) (λ n l. refl) (map (node_of version) v.rows) [])
        ∙ list_again comment_key comments_with (λ c. row.Comment c) is_comment comment_in v.comments desktop.comments_formed desktop.comments_rise

    pub icons_again : IconHasParts → with_all icons_with (rows_of (tables_of version v)) [] ≡ v.icons
    icons_again parts =
        parts_of icons_with refl
        ∙ with-none icons_with (λ a. row.Appl a) (λ a l. refl) v.appls _
        ∙ ap (with_all icons_with icons) (with-none icons_with (λ c. row.Comment c) (λ c l. refl) v.comments _ ∙ with-none icons_with (λ b. row.Block b) (λ b l. refl) (flat_map fork_blocks v.rows) _ ∙ with-none icons_with (λ n. row.Node n) (λ n l. refl) (map (node_of version) v.rows) [])
        ∙ list_again icon_key icons_with (λ i. row.Icon i) is_icon (icon_in parts) v.icons desktop.icons_formed desktop.icons_rise

    pub appls_again : with_all appls_with (rows_of (tables_of version v)) [] ≡ v.appls
    appls_again =
        parts_of appls_with refl
        ∙ ap (with_all appls_with appls) (with-none appls_with (λ i. row.Icon i) (λ i l. refl) v.icons _ ∙ with-none appls_with (λ c. row.Comment c) (λ c l. refl) v.comments _ ∙ with-none appls_with (λ b. row.Block b) (λ b l. refl) (flat_map fork_blocks v.rows) _ ∙ with-none appls_with (λ n. row.Node n) (λ n l. refl) (map (node_of version) v.rows) [])
        ∙ list_again appl_key appls_with (λ a. row.Appl a) (λ a. true) (λ a done g e. appl_in a done e) v.appls (all-always v.appls) desktop.appls_rise

    pub icons_have_room : IconHasParts → HaveRoom HasIconRoom icons_with (rows_of (tables_of version v)) []
    icons_have_room parts =
        let none = with-none icons_with (λ c. row.Comment c) (λ c l. refl) v.comments _ ∙ with-none icons_with (λ b. row.Block b) (λ b l. refl) (flat_map fork_blocks v.rows) _ ∙ with-none icons_with (λ n. row.Node n) (λ n l. refl) (map (node_of version) v.rows) [] in (
          tt,
          have-append HasIconRoom icons_with nodes (blocks ++ (comments ++ (icons ++ appls))) [] (have-none HasIconRoom icons_with (λ n. row.Node n) (λ n l. tt) (map (node_of version) v.rows) [])
              (have-append HasIconRoom icons_with blocks (comments ++ (icons ++ appls)) _ (have-none HasIconRoom icons_with (λ b. row.Block b) (λ b l. tt) (flat_map fork_blocks v.rows) _)
              (have-append HasIconRoom icons_with comments (icons ++ appls) _ (have-none HasIconRoom icons_with (λ c. row.Comment c) (λ c l. tt) v.comments _)
              (have-append HasIconRoom icons_with icons appls _
              (subst (HaveRoom HasIconRoom icons_with icons) (sym none) (list_has_room icon_key icons_with (λ i. row.Icon i) is_icon (icon_in parts) HasIconRoom most_icons icon_room v.icons desktop.icons_formed desktop.icons_rise desktop.few_icons))
              (have-none HasIconRoom icons_with (λ a. row.Appl a) (λ a l. tt) v.appls _)))),
        )

    pub appls_have_room : HaveRoom HasApplRoom appls_with (rows_of (tables_of version v)) []
    appls_have_room =
        let none = with-none appls_with (λ i. row.Icon i) (λ i l. refl) v.icons _ ∙ with-none appls_with (λ c. row.Comment c) (λ c l. refl) v.comments _ ∙ with-none appls_with (λ b. row.Block b) (λ b l. refl) (flat_map fork_blocks v.rows) _ ∙ with-none appls_with (λ n. row.Node n) (λ n l. refl) (map (node_of version) v.rows) [] in (
          tt,
          have-append HasApplRoom appls_with nodes (blocks ++ (comments ++ (icons ++ appls))) [] (have-none HasApplRoom appls_with (λ n. row.Node n) (λ n l. tt) (map (node_of version) v.rows) [])
              (have-append HasApplRoom appls_with blocks (comments ++ (icons ++ appls)) _ (have-none HasApplRoom appls_with (λ b. row.Block b) (λ b l. tt) (flat_map fork_blocks v.rows) _)
              (have-append HasApplRoom appls_with comments (icons ++ appls) _ (have-none HasApplRoom appls_with (λ c. row.Comment c) (λ c l. tt) v.comments _)
              (have-append HasApplRoom appls_with icons appls _ (have-none HasApplRoom appls_with (λ i. row.Icon i) (λ i l. tt) v.icons _)
              (subst (HaveRoom HasApplRoom appls_with appls) (sym none) (list_has_room appl_key appls_with (λ a. row.Appl a) (λ a. true) (λ a done g e. appl_in a done e) HasApplRoom most_appls appl_room v.appls (all-always v.appls) desktop.appls_rise desktop.few_appls))))),
        )
