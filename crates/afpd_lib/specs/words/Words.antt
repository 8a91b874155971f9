-- What the words of the server's command line say (this profile).
use Rattle.std.specs.Prelude.{◌≡◌, ℕ, ◌≤◌, ◌<◌, ◌^◌, List, [], Option, Some, None, Ok, codes}
use Rattle.std.specs.Str.Parse.{IsNumeral, digits_value, without_leading_plus}
use Rattle.hex.specs.Hex.{decode_sized}
use Rattle.afp_base.specs.Limits.{signature_size}
use Rattle.clap.specs.Simple.{matches_of}
use Rattle.clap.specs.Walk.{Row, all_of, first_of}
use Rattle.clap.specs.Faults.{fault_of}
use Rattle.afpd_lib.specs.words.Command.{server_app}
use Rattle.afpd_lib.specs.words.Users.{UserValue, AreUsers}
use Rattle.afpd_lib.specs.words.Places.{VolumeValue, AreVolumes}

-- the server's name, its signature, its message and its users; its TCP port, how many links it serves side by side, after how many it ends,
-- and how much it reads of each; and its volumes
pub record WordValues : Type 0 where
  pub server : List ℕ
  pub signature : List ℕ
  pub message : List ℕ
  pub users : List UserValue
  pub port : ℕ
  pub workers : ℕ
  pub links : ℕ
  pub turns : ℕ
  pub volumes : List VolumeValue

-- the ranges of the numbers
abbrev pub port_limit : ℕ
port_limit = 2 ^ 16

abbrev pub least_workers : ℕ
least_workers = 1

abbrev pub most_workers : ℕ
most_workers = 16

abbrev pub most_links : ℕ
most_links = 1000000

abbrev pub turns_limit : ℕ
turns_limit = 2 ^ 63

-- decimal digits that are this number: leading zeros and a plus sign before them count for nothing
abbrev pub SpellsNumber : List ℕ → ℕ → Type 0
SpellsNumber text number = IsNumeral 10 (without_leading_plus text) × (digits_value 10 (without_leading_plus text) ≡ number)

-- the word behind a name spells this number
pub record IsNumber (rows : List Row) (name : List ℕ) (number : ℕ) : Type 0 where
  pub text : List ℕ
  pub found : first_of name rows ≡ Some text
  pub spells : SpellsNumber text number

-- no word names users, or one lists them
abbrev pub SaysUsers : Option (List ℕ) → List UserValue → Type 0
SaysUsers None users = users ≡ []
SaysUsers (Some text) users = AreUsers text users

-- The words give these rows of the command, and what stands in them are these values.
pub record SaysRows (rows : List Row) (values : WordValues) : Type 0 where
  pub server : first_of (codes "server") rows ≡ Some values.server
  pub hex : List ℕ
  pub digits : first_of (codes "signature") rows ≡ Some hex
  pub signature : decode_sized hex signature_size ≡ Ok values.signature
  pub message : first_of (codes "message") rows ≡ Some values.message
  pub users : SaysUsers (first_of (codes "users") rows) values.users
  pub port : IsNumber rows (codes "port") values.port
  pub port_fits : values.port < port_limit
  pub workers : IsNumber rows (codes "workers") values.workers
  pub some_workers : least_workers ≤ values.workers
  pub few_workers : values.workers ≤ most_workers
  pub links : IsNumber rows (codes "links") values.links
  pub few_links : values.links ≤ most_links
  pub turns : IsNumber rows (codes "turns") values.turns
  pub turns_fit : values.turns < turns_limit
  pub words : List (List ℕ)
  pub places : all_of (codes "volumes") rows ≡ Some words
  pub volumes : AreVolumes words values.volumes

-- The words are taken by the command, and say these values.
pub record SaysWords (words : List (List ℕ)) (values : WordValues) : Type 0 where
  pub taken : fault_of server_app words ≡ []
  pub says : SaysRows (matches_of server_app words) values
