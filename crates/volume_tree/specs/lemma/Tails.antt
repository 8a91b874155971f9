-- How the tails of set calls are read, for private contracts (AFP Reference, "FPSetFileDirParms").
use Rattle.std.specs.Prelude.{ℕ, nat_lt, if◌then◌else◌}
use Rattle.std.specs.List.{filter}
use Rattle.afp_bitmap.specs.Bits.{is_asked}
use Rattle.volume_spec.specs.SetFileDirParms.{asked_bytes, set_fields}

-- the size of a field, where it is asked
abbrev pub size_asked : ℕ → ℕ → ℕ → ℕ
size_asked bits bit size = if is_asked bits bit then size else 0

-- the bytes of the fields of lower bits
unfoldable pub lower_bytes : ℕ → ℕ → ℕ
lower_bytes bits bit = asked_bytes bits (filter (λ (field : ℕ × ℕ). nat_lt field.0 bit) set_fields)
