-- The names of ids are short.
use Rattle.std.proofs.Common.{◌==◌, ◌≡◌, refl, subst, arith, ℕ, ◌<◌, ◌≤◌, true, List, length, Option, Some, None, cond}
use Rattle.std.specs.Prelude.{nat_le, option_map}
use Rattle.std.specs.List.{list_all}
use Rattle.std.proofs.lemmas.Bool.{and_parts, cond_both, leb-true}
use Rattle.afp_base.proofs.ListFacts.{all-each, find-all}
use Rattle.afp_serial.specs.Faultless.{IsFaultless}
use Rattle.afp_serial.specs.HouseFault.{is_name, is_printable, is_text}
use Rattle.afp_serial.specs.Household.{Household}
use Rattle.afp_serial.specs.Limits.{longest_user}
use Rattle.afp_serial.specs.MapID.{name_of_id}
use Rattle.afp_serial.specs.Users.{everyone_id, everyone_name, group_name_of, guest_id, guest_name, is_about_groups, is_about_users, user_name_of, user_with_id}
use Rattle.afp_serial.specs.declared.user.User.{User}

-- a name that is there has fewer than 256 bytes
abbrev IsShortName : Option (List ℕ) → Type 0
IsShortName None = Unit {0}
IsShortName (Some name) = length name < 256

name-short : (name : List ℕ) → is_name longest_user name ≡ true → length name < 256
name-short name h =
    let text : is_text longest_user name ≡ true = (and_parts (nat_le 1 (length name)) (is_text longest_user name) h).1 in
    let few : length name ≤ longest_user = leb-true (length name) longest_user (and_parts (nat_le (length name) longest_user) (list_all is_printable name) text).0 in
    omega (arith, few)

user-short : (users : List User) (id : ℕ) → list_all (λ user. is_name longest_user user.name) users ≡ true → IsShortName (user_name_of users id)
user-short users id named =
    cond_both (id == guest_id) (Some guest_name) (option_map (λ (user : User). user.name) (user_with_id users id)) IsShortName
    (λ guest. let five : length guest_name ≡ 5 = refl in omega (arith, five))
    (λ other. by (user_with_id users id) refl)
  where
    by : (o : Option User) → user_with_id users id ≡ o → IsShortName (option_map (λ (user : User). user.name) o)
    by None is = tt
    by (Some user) is = name-short user.name (find-all (λ user. user.id == id) (λ user. is_name longest_user user.name) users user is named)

group-short : (id : ℕ) → IsShortName (group_name_of id)
group-short id = cond_both (id == everyone_id) (Some everyone_name) None IsShortName (λ everyone. let eight : length everyone_name ≡ 8 = refl in omega (arith, eight)) (λ other. tt)

all-short : (house : Household) (function id : ℕ) → IsFaultless house → IsShortName (name_of_id house.users function id)
all-short house function id has =
    cond_both (is_about_users function) (user_name_of house.users id) (cond (is_about_groups function) (group_name_of id) None) IsShortName
    (λ user. user-short house.users id (all-each (λ user. is_name longest_user user.name) house.users has.user_names))
    (λ other. cond_both (is_about_groups function) (group_name_of id) None IsShortName (λ group. group-short id) (λ none. tt))

pub named-short : (house : Household) (function id : ℕ) (name : List ℕ) → IsFaultless house → name_of_id house.users function id ≡ Some name → length name < 256
named-short house function id name has is = subst IsShortName is (all-short house function id has)
