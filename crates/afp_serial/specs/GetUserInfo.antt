-- FPGetUserInfo (AFP Reference, "FPGetUserInfo"; a session may ask of its own user alone: this profile).
use Rattle.std.specs.Prelude.{ℕ, ◌==◌, Bool, not, ◌&&◌, ◌||◌, if◌then◌else◌, [], ◌∷◌, Option, None, Some, bit_and}
use Rattle.afp_base.specs.declared.code.Code.TheVariants.{BitmapErr, ItemNotFound}
use Rattle.afp_bitmap.specs.Bits.{is_asked, is_outside}
use Rattle.afp_replies.specs.Numbers.{group_id_bit, user_id_bit, user_info_mask}
use Rattle.afp_replies.specs.declared.reply.Reply.{Reply}
use Rattle.afp_replies.specs.declared.reply.Reply.TheVariants.{UserInfo}
use Rattle.afp_serial.specs.Users.{everyone_id}
use Rattle.afp_serial.specs.World.{CallRow, only_tells, plain}

-- bit 0 of the flag asks of this session's user, whatever id comes with it
abbrev pub asks_own : ℕ → Bool
asks_own flag = not (bit_and flag 0x01 == 0)

-- the id of the session's user: the call comes with a user alone
abbrev pub id_of : Option ℕ → ℕ
id_of None = 0
id_of (Some id) = id

-- a value, where its bit is asked
abbrev pub where_asked : ℕ → ℕ → ℕ → Option ℕ
where_asked bits bit value = if is_asked bits bit then Some value else None

-- the ids of a user and of its group, as they are asked
abbrev pub user_info : ℕ → ℕ → Reply
user_info bits id = UserInfo bits (where_asked bits user_id_bit id) (where_asked bits group_id_bit everyone_id)

-- It asks of the user at least one thing.
abbrev pub get_user_info_row : ℕ → ℕ → ℕ → CallRow
get_user_info_row flag id bits = only_tells
    (λ w s.
    (is_outside user_info_mask bits || (bits == 0), plain BitmapErr)
    ∷ (not (asks_own flag) && not (id == id_of s.user), plain ItemNotFound)
    ∷ [])
    (λ w s. user_info bits (id_of s.user))
