use Rattle.std.proofs.Common.{rules, ◌≡◌, ◌∙◌, ap, drop, slice_index, nat_eq, w32, to_z, of_z, cond, Some, None, ◌==◌}
use Rattle.volume_keeper_records.specs.Shape.{date_at, quad_at, privileges_at}
use Rattle.volume_keeper_records.proofs.read.node_of.Goals as goal
use Rattle.volume_keeper_records.specs.Records.{old_version}

pub returns : goal.returns
returns c =
    let behind = c.rest_of-behind.ensures in
    let created : to_z w32 (of_z w32 c.date_at.result) ≡ date_at c.args.value.now 7 = search rules in
    let modified : to_z w32 (of_z w32 c.date_at-2.result) ≡ date_at c.args.value.now 11 = search rules in
    let backup : to_z w32 (of_z w32 c.date_at-3.result) ≡ date_at c.args.value.now 15 = search rules in
    let is_directory = ap (λ k. nat_eq k 1) c.byte_at.ensures in
    let is_filed = ap (λ k. nat_eq k 1) (c.byte_at-2.ensures ∙ ap (λ l. slice_index l 0) behind) in
    let data_length = c.quad_at.ensures ∙ ap (λ l. quad_at l 1) behind in
    let resource_length = c.quad_at-2.ensures ∙ ap (λ l. quad_at l 9) behind in
    let privileges = c.said_privileges-privileges.ensures ∙ ap (λ l. cond (c.args.version == old_version) None (Some (privileges_at l 17))) behind in
    let name : c.in_ok-name.name ≡ drop (cond (c.args.version == old_version) 17 28) (drop 51 c.args.value.now) = search rules in
    λ i. record {
      id = c.long_at.ensures i;
      is_directory = is_directory i;
      parent = c.long_at-2.ensures i;
      attributes = c.word_at.ensures i;
      created = created i;
      modified = modified i;
      backup = backup i;
      finder = c.finder_of-finder.ensures i;
      is_filed = is_filed i;
      data_length = data_length i;
      resource_length = resource_length i;
      privileges = privileges i;
      name = name i;
    }
