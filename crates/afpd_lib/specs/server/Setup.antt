-- What the words set (this profile).
use Rattle.std.specs.Prelude.{◌≡◌, ℕ, List, map}
use Rattle.afpd_lib.specs.words.Places.{PlaceValue, in_memory, in_file}
use Rattle.afpd_lib.specs.words.Words.{WordValues, SaysWords}
use Rattle.afpd_lib.specs.declared.server.setup.ServerSettings.{ServerSettings}
use Rattle.afpd_lib.specs.declared.server.setup.VolumePlace.{VolumePlace}
use Rattle.afpd_lib.specs.declared.server.setup.VolumePlace.TheVariants as places

-- where a volume is kept, by what its word says
abbrev pub kept_at : PlaceValue → VolumePlace
kept_at in_memory = places.Memory
kept_at (in_file name) = places.File name

-- the settings that the words ask for: each volume's place, the port, and the numbers of workers and of links
pub record Sets (words : List (List ℕ)) (settings : ServerSettings) : Type 0 where
  pub values : WordValues
  pub words_are : SaysWords words values
  pub places : settings.places.items ≡ map (λ volume. kept_at volume.place) values.volumes
  pub port : settings.port ≡ values.port
  pub workers : settings.workers ≡ values.workers
  pub links : settings.links ≡ values.links
