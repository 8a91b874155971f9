-- Keepers that a capture is replayed over (this profile).
use Rattle.std.specs.FinMap as map
use Rattle.std.specs.Prelude.{◌≡◌, Bool, true, List, [], ◌∷◌, length, Option, Some}
use Rattle.afp_serial.specs.Limits.{most_volumes}
use Rattle.record_keeper.specs.Records.{Records}

-- A keeper that nobody has used: it tells that it holds nothing, and is sure. The records are those that it goes on telling.
pub record IsNew (records : Option Records) (sure : Bool) : Type 0 where
  pub empty : records ≡ Some map.empty
  pub never_fails : sure ≡ true

abbrev pub AreNew : {K : Type 0} → (K → Option Records) → (K → Bool) → List K → Type 0
AreNew records sure [] = Unit {0}
AreNew records sure (keeper ∷ keepers) = IsNew (records keeper) (sure keeper) × AreNew records sure keepers

-- one for each volume that there may be
pub record AreFresh {K : Type 0} (records : K → Option Records) (sure : K → Bool) (keepers : List K) : Type 0 where
  pub many : length keepers ≡ most_volumes
  pub new : AreNew records sure keepers
