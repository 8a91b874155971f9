-- Who users and groups are, by id and by name (this profile).
use Rattle.std.specs.Prelude.{ℕ, ◌==◌, Bool, true, ◌||◌, if◌then◌else◌, List, Option, None, Some, codes, find, map, option_map, bytes_eq}
use Rattle.std.specs.List.{list_any}
use Rattle.afp_replies.specs.Numbers.{group_id_to_name, group_id_to_utf8_name, user_id_to_name, user_id_to_utf8_name}
use Rattle.afp_serial.specs.declared.user.User.{User}
use Rattle.volume_spec.specs.VolumeState.{guest, only_group}

-- the user that logs in without a name, by its id, which owns the root of a fresh volume, and its name
abbrev pub guest_id : ℕ
guest_id = guest

abbrev pub guest_name : List ℕ
guest_name = codes "guest"

-- the one group, which each user is in
abbrev pub everyone_id : ℕ
everyone_id = only_group

abbrev pub everyone_name : List ℕ
everyone_name = codes "everyone"

-- the ids of the users of a house
abbrev pub user_ids : List User → List ℕ
user_ids users = map (λ (user : User). user.id) users

-- a user of the house by its id, and by exactly its name
abbrev pub user_with_id : List User → ℕ → Option User
user_with_id users id = find (λ user. user.id == id) users

abbrev pub user_with_name : List User → List ℕ → Option User
user_with_name users name = find (λ user. bytes_eq user.name name) users

-- the name of the user of an id: `guest`, or that of a user of the house
abbrev pub user_name_of : List User → ℕ → Option (List ℕ)
user_name_of users id = if id == guest_id then Some guest_name else option_map (λ (user : User). user.name) (user_with_id users id)

-- the id of the user of a name: `guest` is the one without a name, even where a user of the house is named so
abbrev pub user_id_of : List User → List ℕ → Option ℕ
user_id_of users name = if bytes_eq name guest_name then Some guest_id else option_map (λ (user : User). user.id) (user_with_name users name)

-- the same of groups
abbrev pub group_name_of : ℕ → Option (List ℕ)
group_name_of id = if id == everyone_id then Some everyone_name else None

abbrev pub group_id_of : List ℕ → Option ℕ
group_id_of name = if bytes_eq name everyone_name then Some everyone_id else None

-- the functions of FPMapID and FPMapName that are about users, 1 and 3, and about groups, 2 and 4
abbrev pub is_about_users : ℕ → Bool
is_about_users function = (function == user_id_to_name) || (function == user_id_to_utf8_name)

abbrev pub is_about_groups : ℕ → Bool
is_about_groups function = (function == group_id_to_name) || (function == group_id_to_utf8_name)

-- whose a session may be: nobody's yet, the one's without a name, or a user's of the house
abbrev pub is_user_of : List User → Option ℕ → Bool
is_user_of users None = true
is_user_of users (Some id) = (id == guest_id) || list_any (λ user. user.id == id) users
