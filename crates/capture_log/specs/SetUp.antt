-- The house that the first lines of a capture make, as far as they came (this profile).
use Rattle.std.specs.Prelude.{◌≡◌, nat_le, Bool, true, false, [], length, None}
use Rattle.afp_serial.specs.Household.{Household}
use Rattle.afp_serial.specs.HouseFault.{is_name, first_bad_name, is_bad_user, is_bad_volume}
use Rattle.afp_serial.specs.Limits.{longest_server, most_users, most_volumes}
use Rattle.capture_log_server.specs.declared.part.Part.{Part}
use Rattle.capture_log_server.specs.declared.part.Part.TheVariants as parts

-- whether the server was named by now
abbrev pub has_server : Part → Bool
has_server parts.Title = false
has_server parts.Server = false
has_server parts.Signature = true
has_server parts.Users = true
has_server parts.Volumes = true
has_server parts.Events = true
has_server parts.Nothing = true

-- whether a volume was
abbrev pub has_volume : Part → Bool
has_volume parts.Title = false
has_volume parts.Server = false
has_volume parts.Signature = false
has_volume parts.Users = false
has_volume parts.Volumes = true
has_volume parts.Events = true
has_volume parts.Nothing = true

-- No part of a house that was named by now is one that a house refuses.
pub record IsSetUp (part : Part) (h : Household) : Type 0 where
  pub server : has_server part ≡ true → is_name longest_server h.server ≡ true
  pub few_users : nat_le (length h.users) most_users ≡ true
  pub users : first_bad_name is_bad_user h.users ≡ None
  pub some_volume : has_volume part ≡ true → nat_le 1 (length h.volumes) ≡ true
  pub few_volumes : nat_le (length h.volumes) most_volumes ≡ true
  pub volumes : first_bad_name is_bad_volume h.volumes ≡ None
  pub message : h.message ≡ []
