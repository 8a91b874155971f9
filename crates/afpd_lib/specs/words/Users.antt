-- Users, as a word lists them: pairs of a name and a password, joined by commas; the first colon parts a pair (this profile).
use Rattle.std.specs.Prelude.{◌≡◌, ℕ, ◌-◌, ◌==◌, ◌&&◌, nat_le, Bool, true, false, List, [], ◌∷◌, ◌++◌, length, replicate, if◌then◌else◌, Option, Some, None}
use Rattle.std.specs.List.{list_any, before_first, after_first}
use Rattle.afp_base.specs.Limits.{password_size}

-- a name, and a password of 8 bytes
pub record UserValue : Type 0 where
  pub name : List ℕ
  pub password : List ℕ

abbrev pub comma : ℕ → Bool
comma byte = byte == 44

abbrev pub colon : ℕ → Bool
colon byte = byte == 58

-- a pair has a colon, and behind the first one at most 8 bytes
abbrev pub is_pair : List ℕ → Bool
is_pair text = list_any colon text && nat_le (length (after_first colon text)) password_size

-- a password, filled with zeros
abbrev pub filled : List ℕ → List ℕ
filled password = password ++ replicate (password_size - length password) 0

-- the user that a pair is
abbrev pub user_in : List ℕ → Option UserValue
user_in text = if is_pair text then Some (record { name = before_first colon text; password = filled (after_first colon text) }) else None

-- the text is one pair or more, joined by commas
abbrev pub AreUsers : List ℕ → List UserValue → Type 0
AreUsers text [] = ⊥
AreUsers text (user ∷ []) = (list_any comma text ≡ false) × (user_in text ≡ Some user)
AreUsers text (user ∷ next ∷ users) = (list_any comma text ≡ true) × (user_in (before_first comma text) ≡ Some user) × AreUsers (after_first comma text) (next ∷ users)
