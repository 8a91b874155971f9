-- The ranges of a volume's numbers, as its fields have them (AFP Reference, "File and directory parameters", "Date and time").
use Rattle.std.specs.Prelude.{ℕ, ℤ, pos, negsuc, nat_le, nat_lt, Bool, ◌&&◌, List}
use Rattle.std.specs.List.{list_all}
use Rattle.afp_base.specs.Limits.{last_moment}
use Rattle.volume_spec.specs.SoundVolume.{last_next_id}
use Rattle.volume_spec.specs.VolumeState.{Appl, Comment, Icon, Privileges, Row, VolumeState}

-- numbers of one byte, of two, of four, and of eight
abbrev pub is_byte : ℕ → Bool
is_byte n = nat_lt n 256

abbrev pub is_word : ℕ → Bool
is_word n = nat_lt n 65536

abbrev pub is_long : ℕ → Bool
is_long n = nat_lt n 4294967296

abbrev pub is_quad : ℕ → Bool
is_quad n = nat_lt n 18446744073709551616

abbrev pub are_bytes : List ℕ → Bool
are_bytes bytes = list_all is_byte bytes

-- a date: seconds since 2000-01-01 00:00 GMT, in 32 bits with a sign
abbrev pub is_date : ℤ → Bool
is_date (pos n) = nat_le n last_moment
is_date (negsuc n) = nat_le n last_moment

-- an owner and a group; what the rights may be is a matter of soundness
abbrev pub are_typed : Privileges → Bool
are_typed p = is_long p.owner && is_long p.group

-- the fields of a file or directory, of a comment, of an icon, and of an APPL mapping
abbrev pub is_typed_row : Row → Bool
is_typed_row row =
    is_long row.id
    && (is_long row.parent
    && (is_word row.attributes
    && (is_date row.created
    && (is_date row.modified
    && (is_date row.backup
    && (are_bytes row.finder
    && (are_typed row.privileges
    && (are_bytes row.name
    && (are_bytes row.data_fork
    && are_bytes row.resource_fork)))))))))

abbrev pub is_typed_comment : Comment → Bool
is_typed_comment comment = is_long comment.node && are_bytes comment.text

abbrev pub is_typed_icon : Icon → Bool
is_typed_icon icon = are_bytes icon.creator && (are_bytes icon.kind && (is_byte icon.icon_kind && (is_long icon.tag && are_bytes icon.bits)))

abbrev pub is_typed_appl : Appl → Bool
is_typed_appl appl = are_bytes appl.creator && (is_long appl.node && is_long appl.tag)

-- the fields of a volume
unfoldable pub is_typed_volume : VolumeState → Bool
is_typed_volume v =
    are_bytes v.name
    && (is_date v.created
    && (is_date v.modified
    && (is_date v.backup
    && (nat_le v.next_id last_next_id
    && (list_all is_typed_row v.rows
    && (list_all is_typed_comment v.comments
    && (list_all is_typed_icon v.icons
    && list_all is_typed_appl v.appls)))))))
