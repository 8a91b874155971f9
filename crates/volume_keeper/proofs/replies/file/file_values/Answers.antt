use Rattle.std.proofs.Common.{◌∙◌, rules}
use Rattle.std.specs.Int.{w32}
use Rattle.std.proofs.lemmas.Int.{to_z-of_z}
use Rattle.volume_spec.specs.NodeValues.{file_values, told_attributes}
use Rattle.volume_keeper.proofs.replies.file.file_values.Goals as goal

pub returns-clause-values : goal.returns-clause-values
unfolding file_values told_attributes
returns-clause-values c =
    λ i. record {
      attributes = c.attributes_or.ensures i;
      parent = c.parent_or.ensures i;
      created = (to_z-of_z w32 c.created_or.result (search rules) ∙ c.created_or.ensures) i;
      modified = (to_z-of_z w32 c.modified_or.result (search rules) ∙ c.modified_or.ensures) i;
      backup = (to_z-of_z w32 c.backup_or.result (search rules) ∙ c.backup_or.ensures) i;
      finder = c.finder_info_or.ensures i;
      long_name = c.in_ok-long_name.ensures.name i;
      id = c.id_or.ensures i;
      data_length = c.length_or.ensures i;
      resource_length = c.length_or-2.ensures i;
      ext_data_length = (c.from.ensures ∙ c.length_or-3.ensures) i;
      utf8_name = c.in_ok-utf8_name.ensures.name i;
      ext_resource_length = (c.from-2.ensures ∙ c.length_or-4.ensures) i;
    }
