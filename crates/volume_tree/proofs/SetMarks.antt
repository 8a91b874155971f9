-- Marks with settings are those of a row with these settings.
use Rattle.std.proofs.Common.{◌≡◌, ap, refl, subst, Bool, true, false, List, ℕ, Option, Some, None}
use Rattle.std.specs.Prelude.{option_map, unwrap_or, if◌then◌else◌}
use Rattle.node_rows.specs.Kept.{marked}
use Rattle.node_rows.specs.declared.node.Marks.{Marks}
use Rattle.volume_spec.specs.SetFileDirParms.{Settings, attributes_by, privileges_by, with_settings}
use Rattle.volume_spec.specs.VolumeState.{Privileges, Row, privileges_of, rights_bytes}
use Rattle.volume_tree.specs.lemma.After.{marks_after}

set-privileges : (s : Settings) (dir : Bool) (marks : Marks) (p : Privileges) → privileges_of marks.owner marks.group marks.rights ≡ p
    → privileges_of (marks_after s dir marks).owner (marks_after s dir marks).group (marks_after s dir marks).rights ≡ privileges_by dir s p
unfolding privileges_by
set-privileges s dir marks p is =
    subst (λ (q : Privileges). privileges_of (marks_after s dir marks).owner (marks_after s dir marks).group (marks_after s dir marks).rights ≡ privileges_by dir s q) is (go dir s.rights)
  where
    go : (d : Bool) (rights : Option (List ℕ))
        → privileges_of (if d then unwrap_or s.owner marks.owner else marks.owner) (if d then unwrap_or s.group marks.group else marks.group) (if d then unwrap_or rights marks.rights else marks.rights)
        ≡ (if d then privileges_of (unwrap_or s.owner marks.owner) (unwrap_or s.group marks.group) (unwrap_or rights (rights_bytes (privileges_of marks.owner marks.group marks.rights)))
        else privileges_of marks.owner marks.group marks.rights)
    go false rights = refl
    go true None = refl
    go true (Some rights) = refl

pub marks-set : (s : Settings) (marks : Marks) (row : Row) → marked marks row ≡ row → marked (marks_after s row.dir marks) row ≡ with_settings s row
unfolding with_settings
marks-set s marks row is = λ i. record row {
  attributes = unwrap_or (option_map (λ (word : ℕ). attributes_by row.dir word (is i).attributes) s.attributes) (is i).attributes;
  created = unwrap_or s.created (is i).created;
  modified = unwrap_or s.modified (is i).modified;
  backup = unwrap_or s.backup (is i).backup;
  finder = unwrap_or s.finder (is i).finder;
  filed = (is i).filed;
  privileges = set-privileges s row.dir marks row.privileges (ap (λ (r : Row). r.privileges) is) i;
}
