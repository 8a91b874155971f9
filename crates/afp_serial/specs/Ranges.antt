-- The ranges of numbers, as the fields of requests and of the server's setup have them (AFP Reference, "Command formats"; the setup is this profile's).
use Rattle.std.specs.Prelude.{ℕ, ◌==◌, nat_le, Bool, true, ◌&&◌, length, Option, None, Some}
use Rattle.std.specs.List.{list_all}
use Rattle.afp_base.specs.Limits.{password_size, signature_size, token_key_size}
use Rattle.afp_base.specs.Limits.{last_moment}
use Rattle.volume_spec.specs.TypedVolume.{are_bytes, is_long, is_quad, is_word}
use Rattle.afp_serial.specs.Household.{Household}
use Rattle.afp_serial.specs.declared.ask.Ask.{Ask}
use Rattle.afp_serial.specs.declared.ask.Ask.TheVariants as ask
use Rattle.afp_serial.specs.declared.ask.Entry.{Entry}
use Rattle.afp_serial.specs.declared.user.User.{User}

-- seconds since 2000-01-01 00:00 GMT, of a moment
abbrev pub is_moment : ℕ → Bool
is_moment n = nat_le n last_moment

-- The fields of what the server is set up with: a password has 8 bytes, the signature 16, the key of the session tokens 32. (Names, the
-- message and the ids of users are small where the house has no fault.)
abbrev pub is_typed_user : User → Bool
is_typed_user user = are_bytes user.password && (length user.password == password_size)

unfoldable pub is_typed_house : Household → Bool
is_typed_house house =
    list_all is_typed_user house.users
    && ((are_bytes house.signature && (length house.signature == signature_size)) && (are_bytes house.token_key && (length house.token_key == token_key_size)))

-- a moment, where there is one
abbrev pub is_moment_or_none : Option ℕ → Bool
is_moment_or_none None = true
is_moment_or_none (Some moment) = is_moment moment

-- the numbers of an ask, and of an entry
abbrev pub is_typed_ask : Ask → Bool
is_typed_ask (ask.Open attention) = is_long attention
is_typed_ask (ask.Call id write offset payload) = is_word id && (is_long offset && are_bytes payload)
is_typed_ask ask.Pulse = true
is_typed_ask ask.Bye = true
is_typed_ask ask.Lost = true
is_typed_ask ask.Drain = true

unfoldable pub is_typed_entry : Entry → Bool
is_typed_entry e = is_moment e.at && (is_quad e.link.0 && is_typed_ask e.ask)
