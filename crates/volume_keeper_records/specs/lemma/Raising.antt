-- What a migration makes of each row, for private contracts.
use Rattle.std.specs.Prelude.{List, [], ◌∷◌, Some, unwrap_or}
use Rattle.volume_spec.specs.VolumeState.{guest, new_privileges}
use Rattle.record_keeper.specs.declared.record.Change.{Change}
use Rattle.volume_keeper_records.specs.declared.rows.Node.{Node}
use Rattle.volume_keeper_records.specs.declared.rows.TableRow.{TableRow}
use Rattle.volume_keeper_records.specs.declared.rows.TableRow.TheVariants as row
use Rattle.volume_keeper_records.specs.Records.{version}
use Rattle.volume_keeper_records.specs.Migration.{put_of}

-- with the owner, group and rights that it has, or else those of the older version
abbrev pub raised_node : Node → Node
raised_node node = record node { privileges = Some (unwrap_or node.privileges (new_privileges node.is_directory guest)) }

-- a row of the older version as one of the version that is written
abbrev pub raised : TableRow → TableRow
raised (row.Head head) = row.Head (record head { version = version })
raised (row.Node node) = row.Node (raised_node node)
raised (row.Block block) = row.Block block
raised (row.Comment comment) = row.Comment comment
raised (row.Icon icon) = row.Icon icon
raised (row.Appl appl) = row.Appl appl

-- what a migration puts of a row: all other rows are the same in both versions
abbrev pub puts_of : TableRow → List Change
puts_of (row.Head head) = put_of (row.Head head) ∷ []
puts_of (row.Node node) = put_of (row.Node node) ∷ []
puts_of (row.Block block) = []
puts_of (row.Comment comment) = []
puts_of (row.Icon icon) = []
puts_of (row.Appl appl) = []
