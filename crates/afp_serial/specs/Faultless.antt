-- What the order of the faults comes to: what a house without a fault has, and what an index names.
use Rattle.std.specs.Prelude.{◌≡◌, ◌≢◌, ℕ, ◌+◌, ◌<◌, ◌≤◌, Bool, List, length, take, slice_index_or, All, IsTrue, IsFalse, ⊤}
use Rattle.afp_serial.specs.declared.house_fault.HouseFault.{HouseFault}
use Rattle.afp_serial.specs.declared.house_fault.HouseFault.TheVariants.{Server, Users, User as UserAt, Volumes, Volume as VolumeAt, Message, Memory}
use Rattle.afp_serial.specs.declared.user.User.{User}
use Rattle.afp_serial.specs.Household.{Household}
use Rattle.afp_serial.specs.HouseFault.{is_name, is_text, is_bad_user, is_bad_volume}
use Rattle.afp_serial.specs.Limits.{longest_server, longest_user, longest_volume, longest_message, most_users, most_volumes, first_user_id}

-- names in form and in number, ids that follow each other, and no name twice
pub record IsFaultless (house : Household) : Type 0 where
  pub server : IsTrue (is_name longest_server house.server)
  pub few_users : length house.users ≤ most_users
  pub user_names : All (λ user. IsTrue (is_name longest_user user.name)) house.users
  pub user_ids :
      (k : ℕ) (user : User) → k < length house.users → (slice_index_or house.users k user).id ≡ first_user_id + k
  pub users_differ :
      (j k : ℕ) (user : User) → j < k → k < length house.users
      → (slice_index_or house.users j user).name ≢ (slice_index_or house.users k user).name
  pub some_volume : 1 ≤ length house.volumes
  pub few_volumes : length house.volumes ≤ most_volumes
  pub volume_names : All (λ name. IsTrue (is_name longest_volume name)) house.volumes
  pub volumes_differ :
      (j k : ℕ) (name : List ℕ) → j < k → k < length house.volumes
      → slice_index_or house.volumes j name ≢ slice_index_or house.volumes k name
  pub message : IsTrue (is_text longest_message house.message)

-- the element at the index is bad behind those that stand before it, and no earlier one is
pub record IsFirstBad {X : Type 0} (is_bad : List X → X → Bool) (xs : List X) (index : ℕ) : Type 0 where
  pub within : index < length xs
  pub bad : (x : X) → IsTrue (is_bad (take index xs) (slice_index_or xs index x))
  pub earlier : (k : ℕ) (x : X) → k < index → IsFalse (is_bad (take k xs) (slice_index_or xs k x))

-- an index in a fault names the first bad element
abbrev pub NamesFirstBad : HouseFault → Household → Type 0
NamesFirstBad (UserAt index) house = IsFirstBad is_bad_user house.users index
NamesFirstBad (VolumeAt index) house = IsFirstBad is_bad_volume house.volumes index
NamesFirstBad Server house = ⊤
NamesFirstBad Users house = ⊤
NamesFirstBad Volumes house = ⊤
NamesFirstBad Message house = ⊤
NamesFirstBad Memory house = ⊤
