-- The fields of a house, from those of its parts.
use Rattle.std.proofs.Common.{◌≡◌, ℕ, true, ◌&&◌, List, length}
use Rattle.std.specs.Prelude.{◌==◌}
use Rattle.std.specs.List.{list_all}
use Rattle.std.proofs.lemmas.Bool.{and_from}
use Rattle.afp_serial.specs.Household.{household}
use Rattle.afp_serial.specs.Ranges.{is_typed_house, is_typed_user}
use Rattle.volume_spec.specs.TypedVolume.{are_bytes}
use Rattle.afp_serial.specs.declared.user.User.{User}

pub house-typed : (server signature : List ℕ) (users : List User) (volumes : List (List ℕ)) (message token_key : List ℕ) → list_all is_typed_user users ≡ true
    → (are_bytes signature && (length signature == 16)) ≡ true → (are_bytes token_key && (length token_key == 32)) ≡ true
    → is_typed_house (household server signature users volumes message token_key) ≡ true
unfolding is_typed_house
house-typed server signature users volumes message token_key each sixteen many =
    and_from (list_all is_typed_user users) ((are_bytes signature && (length signature == 16)) && (are_bytes token_key && (length token_key == 32))) each
    (and_from (are_bytes signature && (length signature == 16)) (are_bytes token_key && (length token_key == 32)) sixteen many)
