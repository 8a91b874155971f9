-- What the words of `client` say: as whom to log in, and where (this profile).
use Rattle.std.specs.Prelude.{ℕ, Bool, false, List, [], ◌∷◌, codes, bytes_eq, if◌then◌else◌, Option, Some, None, option_and_then}
use Rattle.clap.specs.Faults.{fault_of}
use Rattle.clap.specs.Simple.{matches_of}
use Rattle.clap.specs.Walk.{Row, first_of}
use Rattle.clap.specs.declared.error.kind.ErrorKind.{ErrorKind}
use Rattle.afp_client.specs.declared.session.login.Login.{Login}
use Rattle.afp_serial.specs.HouseFault.{is_name}
use Rattle.afp_serial.specs.Limits.{longest_user}
use Rattle.afpd_lib.specs.words.Users.{UserValue, user_in}
use Rattle.afptool_lib.specs.client.Command.{client_app}
use Rattle.afptool_lib.specs.declared.client.words.ClientWords.{ClientWords}

-- the login of a user, where the name is one that a user of a house may have
abbrev pub as_user : UserValue → Option Login
as_user user = if is_name longest_user user.name then Some (record { user = Some (user.name, user.password) }) else None

-- without a word for it, the login is a guest's
abbrev pub login_in : Option (List ℕ) → Option Login
login_in None = Some (record { user = None })
login_in (Some text) = option_and_then as_user (user_in text)

-- both are there
abbrev pub both_in : Option Login → Option (List ℕ) → Option ClientWords
both_in None address = None
both_in (Some login) None = None
both_in (Some login) (Some address) = Some (record { login = login; address = address })

-- what stands in the rows of the command
abbrev pub said_in : List Row → Option ClientWords
said_in rows = both_in (login_in (first_of (codes "user") rows)) (first_of (codes "address") rows)

-- the same, where the command refuses no word
abbrev pub taken_by : List ErrorKind → List Row → Option ClientWords
taken_by [] rows = said_in rows
taken_by (kind ∷ kinds) rows = None

-- what the words behind the first say
abbrev pub taken_in : List (List ℕ) → Option ClientWords
taken_in words = taken_by (fault_of client_app words) (matches_of client_app words)

-- the first word is the command's name
abbrev pub is_client : List ℕ → Bool
is_client word = bytes_eq word (codes "client")

abbrev pub asks_client : List (List ℕ) → Bool
asks_client [] = false
asks_client (word ∷ words) = is_client word

-- what all words say
abbrev pub client_in : List (List ℕ) → Option ClientWords
client_in [] = None
client_in (word ∷ words) = if is_client word then taken_in words else None

-- the addresses among the words
abbrev pub addresses_in : Option ClientWords → List (List ℕ)
addresses_in None = []
addresses_in (Some client) = client.address ∷ []
