-- What a house refuses, in order (this profile).
use Rattle.std.specs.Prelude.{ℕ, ◌+◌, ◌==◌, nat_le, Bool, not, ◌&&◌, ◌||◌, if◌then◌else◌, List, [], ◌∷◌, ◌++◌, length, Option, Some, None, option_map, bytes_eq}
use Rattle.std.specs.List.{list_all, list_any}
use Rattle.afp_serial.specs.declared.house_fault.HouseFault.{HouseFault}
use Rattle.afp_serial.specs.declared.house_fault.HouseFault.TheVariants as fault
use Rattle.afp_serial.specs.declared.user.User.{User}
use Rattle.afp_serial.specs.Household.{Household}
use Rattle.afp_serial.specs.Limits.{first_printable, last_printable, longest_server, longest_user, longest_volume, longest_message, most_users, most_volumes, first_user_id}

abbrev pub is_printable : ℕ → Bool
is_printable character = nat_le first_printable character && nat_le character last_printable

-- printable ASCII of at most so many characters
abbrev pub is_text : ℕ → List ℕ → Bool
is_text longest text = nat_le (length text) longest && list_all is_printable text

-- the same of at least one character
abbrev pub is_name : ℕ → List ℕ → Bool
is_name longest text = nat_le 1 (length text) && is_text longest text

-- a user behind those that stand before it: a name that is none or that one of them has, or an id other
-- than the one that follows theirs
abbrev pub is_bad_user : List User → User → Bool
is_bad_user before user =
    not (is_name longest_user user.name) || list_any (λ other. bytes_eq other.name user.name) before
    || not (user.id == first_user_id + length before)

-- a volume behind those that stand before it: a name that is none or that one of them has
abbrev pub is_bad_volume : List (List ℕ) → List ℕ → Bool
is_bad_volume before name =
    not (is_name longest_volume name) || list_any (λ other. bytes_eq other name) before

-- the index of the first element of a list that is bad behind those that stand before it; `before` are
-- the elements in front of the list
abbrev pub first_bad_behind : {X : Type 0} → (List X → X → Bool) → List X → List X → Option ℕ
first_bad_behind is_bad before [] = None
first_bad_behind is_bad before (x ∷ rest) =
    if is_bad before x then Some (length before) else first_bad_behind is_bad (before ++ x ∷ []) rest

abbrev pub first_bad_name : {X : Type 0} → (List X → X → Bool) → List X → Option ℕ
first_bad_name is_bad xs = first_bad_behind is_bad [] xs

-- the fault, where the condition holds
abbrev pub fault_if : Bool → HouseFault → Option HouseFault
fault_if condition fault = if condition then Some fault else None

-- the first fault that is there
abbrev pub first_fault : List (Option HouseFault) → Option HouseFault
first_fault [] = None
first_fault (None ∷ rest) = first_fault rest
first_fault (Some fault ∷ rest) = Some fault

-- the faults of a house in the order in which they are tried
unfoldable pub house_fault : Household → Option HouseFault
house_fault house =
    first_fault
    (fault_if (not (is_name longest_server house.server)) fault.Server
    ∷ fault_if (not (nat_le (length house.users) most_users)) fault.Users
    ∷ option_map fault.User (first_bad_name is_bad_user house.users)
    ∷ fault_if (not (nat_le 1 (length house.volumes) && nat_le (length house.volumes) most_volumes)) fault.Volumes
    ∷ option_map fault.Volume (first_bad_name is_bad_volume house.volumes)
    ∷ fault_if (not (is_text longest_message house.message)) fault.Message
    ∷ [])
