-- The ids of the users of a house.
use Rattle.std.proofs.Common.{◌≡◌, ◌∙◌, ap, sym, ℕ, ◌==◌, List, Option}
use Rattle.std.specs.List.{list_any}
use Rattle.afp_base.proofs.ListFacts.{any-map}
use Rattle.afp_base.specs.declared.code.Code.{Code}
use Rattle.afp_serial.specs.Users.{user_ids}
use Rattle.afp_serial.specs.declared.user.User.{User}
use Rattle.volume_spec.specs.SetFileDirParms.{set_dir_parms_behind}

-- whether a user has an id
pub among_ids : (users : List User) (id : ℕ) → list_any (λ other. other == id) (user_ids users) ≡ list_any (λ user. user.id == id) users
among_ids users id = any-map (λ other. other == id) (λ (user : User). user.id) users

-- what is behind FPSetDirParms, by the users of a house
pub behind-by : (users others : List User) (bits : ℕ) (tail : List ℕ) (code : Option Code) → users ≡ others → code ≡ set_dir_parms_behind (user_ids users) bits tail
    → set_dir_parms_behind (user_ids others) bits tail ≡ code
behind-by users others bits tail code same is = sym (is ∙ ap (λ (l : List User). set_dir_parms_behind (user_ids l) bits tail) same)
