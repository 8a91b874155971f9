-- The laws of users, in the subject's own words (this profile).
use Rattle.std.specs.Prelude.{◌≡◌, ◌⊎◌, ℕ, Bool, List, None, Some, find, take}
use Rattle.std.specs.List.{Contains}
use Rattle.afp_base.specs.Limits.{password_size}
use Rattle.afp_calls_grammar.specs.grammar.LoginNames.{cleartext, no_user}
use Rattle.afp_calls_grammar.specs.declared.grammar.call.Call.TheVariants.{Login, LoginExt}
use Rattle.afp_serial.specs.Login.{Credentials, credentials_at, tail_place}
use Rattle.afp_serial.specs.Rows.{effect, refusal}
use Rattle.afp_serial.specs.Sound.{IsSound}
use Rattle.afp_serial.specs.Users.{guest_id}
use Rattle.afp_serial.specs.World.{with_session, World, Session}
use Rattle.afp_serial.specs.declared.user.User.{User}

-- the law of sessions' users: who has logged in is the user without a name, or one of the house
abbrev pub UsersAreKnown : Type 0
UsersAreKnown =
    (w : World) (s : Session) (test : Session → Bool) (id : ℕ) → IsSound w → find test w.sessions ≡ Some s → s.user ≡ Some id
    → (id ≡ guest_id) ⊎ ((user : User) × Contains w.house.users user × (user.id ≡ id))

-- A user of the house logs in to the session: it gave exactly that user's name, and all 8 bytes of its password.
pub record IsInByPassword (w : World) (s : Session) (v : World) (name password : List ℕ) : Type 0 where
  pub user : User
  pub known : Contains w.house.users user
  pub name_is : name ≡ user.name
  pub password_is : password ≡ user.password
  pub left : v ≡ with_session w (record s { user = Some user.id })

-- the laws of logins by name and password that are not refused
abbrev pub LogsInByPassword : Type 0
LogsInByPassword =
    (w : World) (s : Session) (version tail : List ℕ) → refusal w s (Login version cleartext tail) ≡ None
    → (given : Credentials) × (credentials_at (tail_place version cleartext) tail ≡ Some given) × IsInByPassword w s (effect w s (Login version cleartext tail)).world given.name given.password

abbrev pub ExtLogsInByPassword : Type 0
ExtLogsInByPassword =
    (w : World) (s : Session) (flags : ℕ) (version name : List ℕ) (path_kind : ℕ) (path tail : List ℕ) → refusal w s (LoginExt flags version cleartext name path_kind path tail) ≡ None
    → IsInByPassword w s (effect w s (LoginExt flags version cleartext name path_kind path tail)).world name (take password_size tail)

-- the law of the login without a user: whatever comes beside it, the session's user is the one without a name
abbrev pub LogsInWithoutName : Type 0
LogsInWithoutName = (w : World) (s : Session) (version tail : List ℕ) → (effect w s (Login version no_user tail)).world ≡ with_session w (record s { user = Some guest_id })
