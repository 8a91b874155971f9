-- Records by rising key, in byte order; two keys always count as there (this profile).
use Rattle.std.specs.Prelude.{ℕ, List, [], ◌∷◌}
use Rattle.std.specs.Cmp.Lexicographic.{slice_cmp}
use Rattle.std.specs.Ordering.{nat_cmp, match_ordering}
use Rattle.volume_spec.specs.VolumeState.{root_id}
use Rattle.record_keeper.specs.declared.record.Record.{Record}
pub use Rattle.record_keeper.specs.Reading.{IsBelow, RisesByKey}
use Rattle.volume_keeper_records.specs.Records.{node_key}
pub use Rattle.volume_keeper_records.specs.Records.{head_key}

-- the key of the root
abbrev pub root_key : List ℕ
root_key = node_key root_id

-- the records, and one of that key with an empty value where it is missing
abbrev pub with_key : List ℕ → List Record → List Record
with_key key [] = record { key = key; value = [] } ∷ []
with_key key (r ∷ records) = match_ordering (slice_cmp nat_cmp key r.key) (record { key = key; value = [] } ∷ r ∷ records) (r ∷ records) (r ∷ with_key key records)

-- the head and the root count as there
abbrev pub with_head_and_root : List Record → List Record
with_head_and_root records = with_key head_key (with_key root_key records)
