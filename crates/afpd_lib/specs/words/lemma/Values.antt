-- What is read, as the values that the words say.
use Rattle.std.specs.Prelude.{ℕ, ◌≤◌, ◌<◌, List, map, codes}
use Rattle.clap.specs.Walk.{Row}
use Rattle.afpd_lib.specs.declared.words.users.UserWord.{UserWord}
use Rattle.afpd_lib.specs.declared.words.place.PlaceWord.{PlaceWord}
use Rattle.afpd_lib.specs.declared.words.place.PlaceWord.TheVariants as places
use Rattle.afpd_lib.specs.declared.words.place.VolumeWord.{VolumeWord}
use Rattle.afpd_lib.specs.declared.words.read.ServerWords.{ServerWords}
use Rattle.afpd_lib.specs.words.Users.{UserValue}
use Rattle.afpd_lib.specs.words.Places.{PlaceValue, in_memory, in_file, VolumeValue}
use Rattle.afpd_lib.specs.words.Words.{WordValues, IsNumber, port_limit, least_workers, most_workers, most_links, turns_limit}

abbrev pub user_value : UserWord → UserValue
user_value u = record { name = u.name.now; password = u.password }

abbrev pub place_value : PlaceWord → PlaceValue
place_value places.Memory = in_memory
place_value (places.File name) = in_file name.now

abbrev pub volume_value : VolumeWord → VolumeValue
volume_value v = record { name = v.name.now; place = place_value v.place }

abbrev pub values_of : ServerWords → WordValues
values_of w = record {
  server = w.server.now;
  signature = w.signature;
  message = w.message.now;
  users = map user_value w.users.items;
  port = w.port;
  workers = w.workers;
  links = w.links;
  turns = w.turns;
  volumes = map volume_value w.volumes.items;
}

-- the numbers among the values
pub record NumberValues : Type 0 where
  pub port : ℕ
  pub workers : ℕ
  pub links : ℕ
  pub turns : ℕ

pub record SaysNumbers (rows : List Row) (values : NumberValues) : Type 0 where
  pub port : IsNumber rows (codes "port") values.port
  pub port_fits : values.port < port_limit
  pub workers : IsNumber rows (codes "workers") values.workers
  pub some_workers : least_workers ≤ values.workers
  pub few_workers : values.workers ≤ most_workers
  pub links : IsNumber rows (codes "links") values.links
  pub few_links : values.links ≤ most_links
  pub turns : IsNumber rows (codes "turns") values.turns
  pub turns_fit : values.turns < turns_limit
