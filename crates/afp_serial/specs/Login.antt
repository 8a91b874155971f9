-- FPLogin and FPLoginExt (AFP Reference, under these names; the user without a name is this profile's).
use Rattle.std.specs.Prelude.{ℕ, ◌+◌, ◌%◌, nat_le, Bool, not, ◌&&◌, if◌then◌else◌, List, [], ◌∷◌, length, take, drop, Option, None, Some, is_none, is_some, find, option_map, bytes_eq}
use Rattle.std.specs.List.{list_any}
use Rattle.afp_base.specs.Limits.{password_size}
use Rattle.afp_base.specs.declared.code.Code.TheVariants.{BadUAM, BadVersNum, ParamErr, UserNotAuth}
use Rattle.afp_calls_grammar.specs.grammar.LoginNames.{cleartext}
use Rattle.afp_serial.specs.declared.user.User.{User}
use Rattle.afp_serial.specs.StatusWords.{uams, versions}
use Rattle.afp_serial.specs.Users.{guest_id}
use Rattle.afp_serial.specs.World.{CallRow, commits_nothing, plain, with_empty_reply, with_session}

-- a user's name and password, as a login gives them
pub record Credentials : Type 0 where
  pub name : List ℕ
  pub password : List ℕ

-- a password is the first 8 bytes; there is none where fewer are left, and what stands behind them is not looked at
abbrev pub password_in : List ℕ → Option (List ℕ)
password_in bytes = if nat_le password_size (length bytes) then Some (take password_size bytes) else None

-- a name, and the password that begins these bytes
abbrev pub named : List ℕ → List ℕ → Option Credentials
named name bytes = option_map (λ password. record { name = name; password = password }) (password_in bytes)

-- the size of the pad that makes a place even
abbrev pub pad_at : ℕ → ℕ
pad_at place = place % 2

-- The tail of an FPLogin that begins at a place, counted from the command byte: a count of 1 byte and as many bytes of the name, a pad to an even
-- place, and the password.
abbrev pub credentials_at : ℕ → List ℕ → Option Credentials
credentials_at place [] = None
credentials_at place (count ∷ rest) = named (take count rest) (drop (count + pad_at (place + 1 + count)) rest)

-- where the tail begins: behind the command byte, the version and the UAM, each with its count of 1 byte
abbrev pub tail_place : List ℕ → List ℕ → ℕ
tail_place version uam = 1 + (1 + length version) + (1 + length uam)

-- the user of the house with exactly that name and all 8 bytes of that password
abbrev pub is_user : Credentials → User → Bool
is_user given user = bytes_eq user.name given.name && bytes_eq user.password given.password

abbrev pub user_given : List User → Option Credentials → Option User
user_given users None = None
user_given users (Some given) = find (is_user given) users

-- the UAM by name and password
abbrev pub is_cleartext : List ℕ → Bool
is_cleartext uam = bytes_eq uam cleartext

-- who logs in, by id
abbrev pub who_logs_in : List User → List ℕ → Option Credentials → Option ℕ
who_logs_in users uam given = if is_cleartext uam then option_map (λ (user : User). user.id) (user_given users given) else Some guest_id

-- By the UAM without a user, what is given beside it is not looked at. The session's user is who logs in.
abbrev pub logs_in_row : List ℕ → List ℕ → Option Credentials → CallRow
logs_in_row version uam given = record {
  refusals = λ w s.
      (is_some s.user, plain ParamErr)
      ∷ (not (list_any (bytes_eq version) versions), plain BadVersNum)
      ∷ (not (list_any (bytes_eq uam) uams), plain BadUAM)
      ∷ (is_cleartext uam && is_none given, plain ParamErr)
      ∷ (is_cleartext uam && is_none (user_given w.house.users given), plain UserNotAuth)
      ∷ [];
  effect = λ w s. with_empty_reply (with_session w (record s { user = who_logs_in w.house.users uam given }));
  committed = commits_nothing;
}

-- FPLogin: its tail gives name and password
abbrev pub login_row : List ℕ → List ℕ → List ℕ → CallRow
login_row version uam tail = logs_in_row version uam (credentials_at (tail_place version uam) tail)

-- FPLoginExt: the name is a field of its own, and the tail gives the password
abbrev pub login_ext_row : List ℕ → List ℕ → List ℕ → List ℕ → CallRow
login_ext_row version uam name tail = logs_in_row version uam (named name tail)
