-- FPMapID (AFP Reference, "FPMapID"; ids and names are this profile's).
use Rattle.std.specs.Prelude.{ℕ, ◌==◌, Bool, ◌||◌, if◌then◌else◌, List, [], ◌∷◌, Option, None, Some, is_none}
use Rattle.afp_base.specs.declared.code.Code.TheVariants.{ItemNotFound}
use Rattle.afp_replies.specs.Numbers.{group_id_to_utf8_name, user_id_to_utf8_name}
use Rattle.afp_replies.specs.declared.reply.Reply.{Reply}
use Rattle.afp_replies.specs.declared.reply.Reply.TheVariants.{Empty, MappedName}
use Rattle.afp_serial.specs.Users.{group_name_of, is_about_groups, is_about_users, user_name_of}
use Rattle.afp_serial.specs.World.{CallRow, only_tells, plain}
use Rattle.afp_serial.specs.declared.user.User.{User}

-- the name of that id: a user's in functions 1 and 3, a group's in 2 and 4; no request has another function
abbrev pub name_of_id : List User → ℕ → ℕ → Option (List ℕ)
name_of_id users function id =
    if is_about_users function then user_name_of users id
    else (if is_about_groups function then group_name_of id else None)

-- functions 3 and 4 are told names in UTF-8, behind a count of 2 bytes, and the others behind one of 1
abbrev pub is_utf8_function : ℕ → Bool
is_utf8_function function = (function == user_id_to_utf8_name) || (function == group_id_to_utf8_name)

-- the name; where there is none the call was refused
abbrev pub name_reply : ℕ → Option (List ℕ) → Reply
name_reply function None = Empty
name_reply function (Some name) = MappedName (is_utf8_function function) name

abbrev pub map_id_row : ℕ → ℕ → CallRow
map_id_row function id = only_tells
    (λ w s. (is_none (name_of_id w.house.users function id), plain ItemNotFound) ∷ [])
    (λ w s. name_reply function (name_of_id w.house.users function id))
