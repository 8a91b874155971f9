-- Comments and APPL mappings stand on nodes that are there.
use Rattle.std.proofs.Common.{◌==◌, ◌≡◌, ◌∙◌, ap, ℕ, true, not, ◌&&◌, List, [], ◌∷◌, ◌++◌, map}
use Rattle.std.specs.List.{list_all, filter}
use Rattle.std.proofs.lemmas.Bool.{and_parts, and_from, eqb-true}
use Rattle.volume_spec.specs.Edits.{without, with_row, without_node}
use Rattle.volume_spec.specs.SoundVolume.{has_node, has_file, has_noted_nodes}
use Rattle.volume_spec.specs.VolumeState.{Row, Comment, Appl, VolumeState}
use Rattle.afp_base.proofs.ListFacts.{all-both, all-filter, all-kept, all-weaker, any-longer, any-map, any-still, any-weaker}

pub record NoteParts (v : VolumeState) : Type 0 where
  pub comments : list_all (λ (comment : Comment). has_node v.rows comment.node) v.comments ≡ true
  pub appls : list_all (λ (appl : Appl). has_file v.rows appl.node) v.appls ≡ true

pub note-parts : (v : VolumeState) → has_noted_nodes v ≡ true → NoteParts v
unfolding has_noted_nodes
note-parts v h =
    let e = and_parts (list_all (λ (comment : Comment). has_node v.rows comment.node) v.comments) (list_all (λ (appl : Appl). has_file v.rows appl.node) v.appls) h in
    record { comments = e.0; appls = e.1 }

pub note-whole : (v : VolumeState) → NoteParts v → has_noted_nodes v ≡ true
unfolding has_noted_nodes
note-whole v p = and_from (list_all (λ (comment : Comment). has_node v.rows comment.node) v.comments) (list_all (λ (appl : Appl). has_file v.rows appl.node) v.appls) p.comments p.appls

pub notes-new : (v : VolumeState) (row : Row) → NoteParts v → NoteParts (with_row row v)
notes-new v row p =
    let new : List Row = (record row { id = v.next_id }) ∷ [] in
    record {
      comments = all-weaker (λ (comment : Comment). has_node v.rows comment.node) (λ comment. has_node (v.rows ++ new) comment.node) v.comments
          (λ comment there. any-longer (λ other. other.id == comment.node) v.rows new there) p.comments;
      appls = all-weaker (λ (appl : Appl). has_file v.rows appl.node) (λ appl. has_file (v.rows ++ new) appl.node) v.appls
          (λ appl there. any-longer (λ other. (other.id == appl.node) && not other.dir) v.rows new there) p.appls;
    }

-- a change of rows that leaves what they are
pub notes-mapped : (v : VolumeState) (change : Row → Row) → ((row : Row) → (change row).id ≡ row.id) → ((row : Row) → (change row).dir ≡ row.dir) → NoteParts v → NoteParts (record v { rows = map change v.rows })
notes-mapped v change id dir p = record {
  comments = all-weaker (λ (comment : Comment). has_node v.rows comment.node) (λ comment. has_node (map change v.rows) comment.node) v.comments
      (λ comment there. any-map (λ row. row.id == comment.node) change v.rows ∙ any-weaker (λ row. row.id == comment.node) (λ row. (change row).id == comment.node) v.rows (λ row is. (λ i. id row i == comment.node) ∙ is) there) p.comments;
  appls = all-weaker (λ (appl : Appl). has_file v.rows appl.node) (λ appl. has_file (map change v.rows) appl.node) v.appls
      (λ appl there. any-map (λ row. (row.id == appl.node) && not row.dir) change v.rows
      ∙ any-weaker (λ row. (row.id == appl.node) && not row.dir) (λ row. ((change row).id == appl.node) && not (change row).dir) v.rows (λ row is. (λ i. (id row i == appl.node) && not (dir row i)) ∙ is) there) p.appls;
}

not-node : (row : Row) (node id : ℕ) → (row.id == node) ≡ true → not (node == id) ≡ true → not (row.id == id) ≡ true
not-node row node id is other = ap (λ q. not (q == id)) (eqb-true row.id node is) ∙ other

pub notes-without : (v : VolumeState) (id : ℕ) → NoteParts v → NoteParts (without_node id v)
unfolding without
notes-without v id p = record {
  comments = all-both (λ (comment : Comment). has_node v.rows comment.node) (λ comment. not (comment.node == id)) (λ comment. has_node (without id v.rows) comment.node) (filter (λ (comment : Comment). not (comment.node == id)) v.comments)
      (λ comment there other. any-still (λ row. row.id == comment.node) (λ row. not (row.id == id)) v.rows (λ row is. not-node row comment.node id is other) there)
      (all-filter (λ (comment : Comment). has_node v.rows comment.node) (λ comment. not (comment.node == id)) v.comments p.comments)
      (all-kept (λ (comment : Comment). not (comment.node == id)) v.comments);
  appls = all-both (λ (appl : Appl). has_file v.rows appl.node) (λ appl. not (appl.node == id)) (λ appl. has_file (without id v.rows) appl.node) (filter (λ (appl : Appl). not (appl.node == id)) v.appls)
      (λ appl there other. any-still (λ row. (row.id == appl.node) && not row.dir) (λ row. not (row.id == id)) v.rows (λ row is. not-node row appl.node id (and_parts (row.id == appl.node) (not row.dir) is).0 other) there)
      (all-filter (λ (appl : Appl). has_file v.rows appl.node) (λ appl. not (appl.node == id)) v.appls p.appls)
      (all-kept (λ (appl : Appl). not (appl.node == id)) v.appls);
}
