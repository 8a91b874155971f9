-- FPGetSrvrMsg (AFP Reference, "FPGetSrvrMsg"; the server's one message is this profile's).
use Rattle.std.specs.Prelude.{ℕ, ◌==◌, nat_le, not, if◌then◌else◌, List, [], ◌∷◌, Option, None, Some, codes, is_some}
use Rattle.afp_base.specs.declared.code.Code.TheVariants.{BitmapErr, ParamErr}
use Rattle.afp_bitmap.specs.Bits.{is_asked, is_outside}
use Rattle.afp_replies.specs.Numbers.{message_bit, message_mask}
use Rattle.afp_replies.specs.declared.reply.Reply.TheVariants.{Message}
use Rattle.afp_serial.specs.World.{CallRow, only_tells, plain, World}

-- the types of messages: the one at login, and the server's
abbrev pub login_message : ℕ
login_message = 0

abbrev pub server_message : ℕ
server_message = 1

-- what the server says once it is about to stop, and before that nothing
abbrev pub closing_message : List ℕ
closing_message = codes "The server is closing."

abbrev pub message_since : Option ℕ → List ℕ
message_since drain = if is_some drain then closing_message else []

-- the message of a type: that of the house at login, or the server's
abbrev pub message_of : World → ℕ → List ℕ
message_of w kind = if kind == login_message then w.house.message else message_since w.drain

-- Bit 0 asks for the message; bit 1 asks for a count of 2 bytes before it, not of 1.
abbrev pub get_srvr_msg_row : ℕ → ℕ → CallRow
get_srvr_msg_row kind bits = only_tells
    (λ w s.
    (not (nat_le kind server_message), plain ParamErr)
    ∷ (is_outside message_mask bits, plain BitmapErr)
    ∷ [])
    (λ w s. Message kind bits (if is_asked bits message_bit then Some (message_of w kind) else None))
