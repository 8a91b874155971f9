-- FPMapName (AFP Reference, "FPMapName"; ids and names are this profile's).
use Rattle.std.specs.Prelude.{ℕ, if◌then◌else◌, List, [], ◌∷◌, Option, None, Some, is_none}
use Rattle.afp_base.specs.declared.code.Code.TheVariants.{ItemNotFound}
use Rattle.afp_replies.specs.declared.reply.Reply.{Reply}
use Rattle.afp_replies.specs.declared.reply.Reply.TheVariants.{Empty, MappedId}
use Rattle.afp_serial.specs.Users.{group_id_of, is_about_users, user_id_of}
use Rattle.afp_serial.specs.World.{CallRow, only_tells, plain}
use Rattle.afp_serial.specs.declared.user.User.{User}

-- the id of a name that is not empty: a user's in functions 1 and 3, a group's in 2 and 4
abbrev pub id_named : List User → ℕ → List ℕ → Option ℕ
id_named users function name = if is_about_users function then user_id_of users name else group_id_of name

-- an empty name has the id 0
abbrev pub id_of_name : List User → ℕ → List ℕ → Option ℕ
id_of_name users function [] = Some 0
id_of_name users function (byte ∷ bytes) = id_named users function (byte ∷ bytes)

-- the id; where there is none the call was refused
abbrev pub id_reply : Option ℕ → Reply
id_reply None = Empty
id_reply (Some id) = MappedId id

abbrev pub map_name_row : ℕ → List ℕ → CallRow
map_name_row function name = only_tells
    (λ w s. (is_none (id_of_name w.house.users function name), plain ItemNotFound) ∷ [])
    (λ w s. id_reply (id_of_name w.house.users function name))
