-- The house that the words of the command line ask for (this profile).
use Rattle.std.specs.Prelude.{◌≡◌, ℕ, ◌+◌, nat_le, if◌then◌else◌, List, [], ◌∷◌, length, map, None}
use Rattle.afp_serial.specs.Household.{Household, household}
use Rattle.afp_serial.specs.HouseFault.{house_fault}
use Rattle.afp_serial.specs.Limits.{first_user_id}
use Rattle.afp_serial.specs.declared.user.User.{User}
use Rattle.afpd_lib.specs.words.Users.{UserValue}
use Rattle.afpd_lib.specs.words.Words.{WordValues, SaysWords}

-- the id behind one; the last id of 32 bits stands, long past the most users of a house
abbrev pub next_id : ℕ → ℕ
next_id id = if nat_le id 4294967294 then id + 1 else id

-- users as they are listed, their ids from a first one
abbrev pub users_from : ℕ → List UserValue → List User
users_from id [] = []
users_from id (user ∷ users) = record { id = id; name = user.name; password = user.password } ∷ users_from (next_id id) users

-- the server's name and signature, the users, the volumes' names, the message, and this key of session tokens
abbrev pub house_of : WordValues → List ℕ → Household
house_of said key = household said.server said.signature (users_from first_user_id said.users) (map (λ volume. volume.name) said.volumes) said.message key

-- the words ask for a house that is taken
pub record Asks (words : List (List ℕ)) (key : List ℕ) (values : WordValues) : Type 0 where
  pub words_are : SaysWords words values
  pub house_is : house_fault (house_of values key) ≡ None

-- the words are others, or the house that they ask for is refused, or the number of keepers is not that of its volumes, or that of doors not that of the workers
abbrev pub IsRefused : List (List ℕ) → List ℕ → ℕ → ℕ → Type 0
IsRefused words key keepers doors = (values : WordValues) → Asks words key values → keepers ≡ length (house_of values key).volumes → doors ≡ values.workers → ⊥
