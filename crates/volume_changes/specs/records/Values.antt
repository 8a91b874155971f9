-- What the record of each kind has on a volume (this profile).
use Rattle.std.specs.Prelude.{ℕ, Bool, if◌then◌else◌, List, [], ◌∷◌, Option, Some, None, option_map, unwrap_or}
use Rattle.fork_bytes.specs.declared.block.Block.{Block}
use Rattle.fork_bytes.specs.Blocks.{block_at}
use Rattle.fork_bytes.specs.Kept.{is_empty}
use Rattle.record_keeper.specs.declared.record.Change.{Change}
use Rattle.record_keeper.specs.declared.record.Change.TheVariants.{Put, Remove}
use Rattle.volume_spec.specs.Desktop.{appl_at, comment_at, icon_at}
use Rattle.volume_spec.specs.VolumeState.{Appl, Comment, Icon, VolumeState}
use Rattle.volume_keeper_records.specs.Image.{tables_of}
use Rattle.volume_keeper_records.specs.Records.{block_key, head_record, icon_record, long_bytes, version}
use Rattle.volume_changes.specs.records.Touched.{bytes_at}

-- the value of the head's record
abbrev pub head_value : VolumeState → List ℕ
head_value v = (head_record (tables_of version v).head).value

-- the bytes of a fork, none where it is not there
abbrev pub fork_at : VolumeState → ℕ → Bool → List ℕ
fork_at v id resource = unwrap_or (bytes_at v id resource) []

-- a block of zeros has no record
abbrev pub unless_empty : List ℕ → Option (List ℕ)
unless_empty [] = None
unless_empty (b ∷ bs) = Some (b ∷ bs)

-- the value of the record of a fork's block
abbrev pub block_value : VolumeState → ℕ → Bool → ℕ → Option (List ℕ)
block_value v id resource index = unless_empty (block_at (fork_at v id resource) index)

-- the value of the record of a node's comment
abbrev pub comment_value : VolumeState → ℕ → Option (List ℕ)
comment_value v node = option_map (λ (comment : Comment). comment.text) (comment_at node v.comments)

-- the value of the record of the icon under a key
abbrev pub icon_value : VolumeState → List ℕ → Option (List ℕ)
icon_value v key = option_map (λ (icon : Icon). (icon_record icon).value) (icon_at key v.icons)

-- the tag of the mapping of a creator and a file
abbrev pub appl_tag : VolumeState → List ℕ → ℕ → Option ℕ
appl_tag v creator node = option_map (λ (appl : Appl). appl.tag) (appl_at creator node v.appls)

-- the value of its record
abbrev pub appl_value : VolumeState → List ℕ → ℕ → Option (List ℕ)
appl_value v creator node = option_map long_bytes (appl_tag v creator node)

-- the change of a block's record to a block as it is afterwards
abbrev pub block_change : ℕ → Bool → Block → Change
block_change id resource block = if is_empty block.bytes then Remove (block_key id resource block.index) else Put (block_key id resource block.index) block.bytes
