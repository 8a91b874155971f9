-- The rights of a directory are three bits each.
use Rattle.std.proofs.Common.{◌==◌, ◌≡◌, ◌∙◌, ap, ℕ, ◌≤◌, ◌<◌, ◌^◌, ◌&&◌, cond, true, arith}
use Rattle.std.specs.Prelude.{nat_le}
use Rattle.std.proofs.lemmas.Bool.{and_parts, cond_both, leb-true}
use Rattle.std.proofs.lemmas.Nat.{or_lt}
use Rattle.afp_base.proofs.ListFacts.{find-all}
use Rattle.volume_spec.proofs.Formed.{formed-parts}
use Rattle.volume_spec.specs.Rights.{rights_of}
use Rattle.volume_spec.specs.SoundVolume.{IsSoundVolume, has_fit_privileges, is_formed}
use Rattle.volume_spec.specs.VolumeState.{Privileges, Row, VolumeState, only_group}
use Rattle.volume_spec.specs.Walk.{row_at}
use Rattle.volume_tree.specs.Shown.{IsNode}

-- so are those that a user has of it
pub rights-small : (p : Privileges) (user : ℕ) → has_fit_privileges true p ≡ true → rights_of p user < 2 ^ 3
unfolding rights_of
rights-small p user h =
    let a = and_parts (nat_le p.everyone_rights 7) (nat_le p.group_rights 7 && nat_le p.owner_rights 7) h in
    let b = and_parts (nat_le p.group_rights 7) (nat_le p.owner_rights 7) a.1 in
    let everyone : p.everyone_rights ≤ 7 = leb-true p.everyone_rights 7 a.0 in
    let group : p.group_rights ≤ 7 = leb-true p.group_rights 7 b.0 in
    let owner : p.owner_rights ≤ 7 = leb-true p.owner_rights 7 b.1 in
    let by_group : cond (p.group == only_group) p.group_rights 0 < 2 ^ 3 = cond_both (p.group == only_group) p.group_rights 0 (λ n. n < 2 ^ 3) (λ is. omega arith) (λ other. omega arith) in
    let by_owner : cond (p.owner == user) p.owner_rights 0 < 2 ^ 3 = cond_both (p.owner == user) p.owner_rights 0 (λ n. n < 2 ^ 3) (λ is. omega arith) (λ other. omega arith) in
    or_lt 3 p.everyone_rights _ (omega arith) (or_lt 3 _ _ by_group by_owner)

-- a node of a sound volume has the privileges of its kind
pub node-fit : (v : VolumeState) (node : Row) → IsSoundVolume v → IsNode v.rows node → has_fit_privileges node.dir node.privileges ≡ true
unfolding row_at
node-fit v node s is =
    let row : Row = is.0 in
    let formed : is_formed row ≡ true = find-all (λ (r : Row). r.id == node.id) is_formed v.rows row is.1.found (formed-parts v s.formed).rows in
    ap (λ (r : Row). has_fit_privileges r.dir r.privileges) is.1.shown ∙ (and_parts (has_fit_privileges row.dir row.privileges) _ formed).0
