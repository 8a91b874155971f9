-- Tables are what their rows make.
use Rattle.std.proofs.Common.{◌≡◌, ◌∙◌, List, [], ◌∷◌, ◌++◌, map, refl, ap, Option}
use Rattle.std.specs.Prelude.{Some, None}
use Rattle.std.specs.List.{filter_map, cons_option}
use Rattle.std.proofs.lemmas.List.{append-nil}
use Rattle.std.proofs.lemmas.List.Elements.{filter_map-append}
use Rattle.volume_keeper_records.specs.declared.rows.TableRow.{TableRow}
use Rattle.volume_keeper_records.specs.declared.rows.TableRow.TheVariants as row
use Rattle.volume_keeper_records.specs.Image.{Tables, rows_of, tables_in, as_node, as_block, as_comment, as_icon, as_appl}
use Rattle.volume_keeper_records.proofs.RowKinds.{behind_head}

module _ {A : Type 0} (as_one : TableRow → Option A) where
  of_others : {B : Type 0} (make : B → TableRow) → ((b : B) → as_one (make b) ≡ None) → (bs : List B) → filter_map as_one (map make bs) ≡ []
  of_others make other [] = refl
  of_others make other (b ∷ bs) = (λ i. cons_option (other b i) (of_others make other bs i))

  of_these : (make : A → TableRow) → ((a : A) → as_one (make a) ≡ Some a) → (xs : List A) → filter_map as_one (map make xs) ≡ xs
  of_these make same [] = refl
  of_these make same (x ∷ xs) = (λ i. cons_option (same x i) (of_these make same xs i))

  of_parts : (t : Tables) → filter_map as_one (behind_head t)
      ≡ filter_map as_one (map (λ x. row.Node x) t.nodes) ++ (filter_map as_one (map (λ x. row.Block x) t.blocks) ++ (filter_map as_one (map (λ x. row.Comment x) t.comments)
      ++ (filter_map as_one (map (λ x. row.Icon x) t.icons) ++ filter_map as_one (map (λ x. row.Appl x) t.appls))))
  of_parts t =
      let appls : List TableRow = map (λ x. row.Appl x) t.appls in
      let icons : List TableRow = map (λ x. row.Icon x) t.icons in
      let comments : List TableRow = map (λ x. row.Comment x) t.comments in
      let blocks : List TableRow = map (λ x. row.Block x) t.blocks in
      let nodes : List TableRow = map (λ x. row.Node x) t.nodes in
      filter_map-append as_one nodes (blocks ++ (comments ++ (icons ++ appls)))
      ∙ ap (λ l. filter_map as_one nodes ++ l) (filter_map-append as_one blocks (comments ++ (icons ++ appls))
      ∙ ap (λ l. filter_map as_one blocks ++ l) (filter_map-append as_one comments (icons ++ appls)
      ∙ ap (λ l. filter_map as_one comments ++ l) (filter_map-append as_one icons appls)))

pub nodes_back : (t : Tables) → filter_map as_node (rows_of t) ≡ t.nodes
nodes_back t =
    of_parts as_node t
    ∙ (λ i. of_these as_node (λ x. row.Node x) (λ x. refl) t.nodes i ++ (of_others as_node (λ x. row.Block x) (λ x. refl) t.blocks i ++ (of_others as_node (λ x. row.Comment x) (λ x. refl) t.comments i
    ++ (of_others as_node (λ x. row.Icon x) (λ x. refl) t.icons i ++ of_others as_node (λ x. row.Appl x) (λ x. refl) t.appls i))))
    ∙ append-nil t.nodes

blocks_back : (t : Tables) → filter_map as_block (rows_of t) ≡ t.blocks
blocks_back t =
    of_parts as_block t
    ∙ (λ i. of_others as_block (λ x. row.Node x) (λ x. refl) t.nodes i ++ (of_these as_block (λ x. row.Block x) (λ x. refl) t.blocks i ++ (of_others as_block (λ x. row.Comment x) (λ x. refl) t.comments i
    ++ (of_others as_block (λ x. row.Icon x) (λ x. refl) t.icons i ++ of_others as_block (λ x. row.Appl x) (λ x. refl) t.appls i))))
    ∙ append-nil t.blocks

comments_back : (t : Tables) → filter_map as_comment (rows_of t) ≡ t.comments
comments_back t =
    of_parts as_comment t
    ∙ (λ i. of_others as_comment (λ x. row.Node x) (λ x. refl) t.nodes i ++ (of_others as_comment (λ x. row.Block x) (λ x. refl) t.blocks i ++ (of_these as_comment (λ x. row.Comment x) (λ x. refl) t.comments i
    ++ (of_others as_comment (λ x. row.Icon x) (λ x. refl) t.icons i ++ of_others as_comment (λ x. row.Appl x) (λ x. refl) t.appls i))))
    ∙ append-nil t.comments

icons_back : (t : Tables) → filter_map as_icon (rows_of t) ≡ t.icons
icons_back t =
    of_parts as_icon t
    ∙ (λ i. of_others as_icon (λ x. row.Node x) (λ x. refl) t.nodes i ++ (of_others as_icon (λ x. row.Block x) (λ x. refl) t.blocks i ++ (of_others as_icon (λ x. row.Comment x) (λ x. refl) t.comments i
    ++ (of_these as_icon (λ x. row.Icon x) (λ x. refl) t.icons i ++ of_others as_icon (λ x. row.Appl x) (λ x. refl) t.appls i))))
    ∙ append-nil t.icons

appls_back : (t : Tables) → filter_map as_appl (rows_of t) ≡ t.appls
appls_back t =
    of_parts as_appl t
    ∙ (λ i. of_others as_appl (λ x. row.Node x) (λ x. refl) t.nodes i ++ (of_others as_appl (λ x. row.Block x) (λ x. refl) t.blocks i ++ (of_others as_appl (λ x. row.Comment x) (λ x. refl) t.comments i
    ++ (of_others as_appl (λ x. row.Icon x) (λ x. refl) t.icons i ++ of_these as_appl (λ x. row.Appl x) (λ x. refl) t.appls i))))

pub tables_back : (t : Tables) → tables_in (rows_of t) ≡ t
tables_back t = λ i. record { head = t.head; nodes = nodes_back t i; blocks = blocks_back t i; comments = comments_back t i; icons = icons_back t i; appls = appls_back t i }
