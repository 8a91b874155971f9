-- Who may search, read and write a directory (AFP Reference, "Directory access controls"; whose rights count where is this profile's).
use Rattle.std.specs.Prelude.{ℕ, ◌==◌, Bool, not, ◌&&◌, List, bit_and, bit_or, if◌then◌else◌}
use Rattle.std.specs.List.{list_any}
use Rattle.volume_spec.specs.VolumeState.{Row, Privileges, only_group}

-- the bits of a rights byte
abbrev pub search_right : ℕ
search_right = 0x01

abbrev pub read_right : ℕ
read_right = 0x02

abbrev pub write_right : ℕ
write_right = 0x04

-- the rights of a user: those of everyone, those of the group where it is the users' one, and those of the owner where the user is it
unfoldable pub rights_of : Privileges → ℕ → ℕ
rights_of p user = bit_or p.everyone_rights
    (bit_or (if p.group == only_group then p.group_rights else 0) (if p.owner == user then p.owner_rights else 0))

-- whether a user has one of these rights
abbrev pub has_right : ℕ → ℕ → Privileges → Bool
has_right user right p = not (bit_and (rights_of p user) right == 0)

-- whether a user lacks a right in the directory of this id
unfoldable pub lacks : List Row → ℕ → ℕ → ℕ → Bool
lacks rows user right id = not (list_any (λ row. (row.id == id) && has_right user right row.privileges) rows)

-- whether a user may not go down from here: it is a directory in which the user lacks search
unfoldable pub is_closed : List Row → ℕ → ℕ → Bool
is_closed rows user here = list_any (λ row. (row.id == here) && (row.dir && not (has_right user search_right row.privileges))) rows

-- whether a user owns the directory of this id
unfoldable pub is_owner : List Row → ℕ → ℕ → Bool
is_owner rows user id = list_any (λ row. (row.id == id) && (row.privileges.owner == user)) rows
