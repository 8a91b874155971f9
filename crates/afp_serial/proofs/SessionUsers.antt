-- The ids of a house's users, and of a session's user, have four bytes in a sound world.
use Rattle.std.proofs.Common.{◌≡◌, refl, ℕ, ◌<◌, arith, Bool, true, List, [], ◌∷◌, Option, Some, None, inl, inr}
use Rattle.std.specs.Prelude.{◌==◌, find, nat_lt, unwrap_or}
use Rattle.std.specs.List.{list_all, list_any}
use Rattle.std.proofs.lemmas.Bool.{and_parts, eqb-true, lt-ltb, ltb-true, or_cases}
use Rattle.afp_base.proofs.Facts.{none_from_is_none}
use Rattle.afp_base.proofs.ListFacts.{all-each, find-all}
use Rattle.afp_serial.proofs.Faultless.{faultless}
use Rattle.afp_serial.proofs.SoundParts.{users-parts}
use Rattle.afp_serial.specs.Faultless.{IsFaultless}
use Rattle.afp_serial.specs.GetUserInfo.{id_of}
use Rattle.afp_serial.specs.Household.{Household}
use Rattle.afp_serial.specs.HouseFault.{house_fault}
use Rattle.afp_serial.specs.Sound.{IsSound}
use Rattle.afp_serial.specs.Users.{guest_id, is_user_of}
use Rattle.afp_serial.specs.World.{user_of, World, Session}
use Rattle.afp_serial.specs.declared.user.User.{User}
use Rattle.volume_spec.specs.TypedVolume.{is_long}
use Rattle.volume_spec.specs.VolumeState.{guest}

-- the house of a sound world

pub house-of : (w : World) → IsSound w → IsFaultless w.house
house-of w h = faultless w.house (none_from_is_none (house_fault w.house) h.house)

-- its users

abbrev pub is_small : User → Bool
is_small user = nat_lt user.id 4294967296

pub users-small : (house : Household) → IsFaultless house → list_all is_small house.users ≡ true
users-small house has =
    all-each is_small house.users
    (λ k d inside.
    let is = has.user_ids k d inside in
    let few = has.few_users in
    lt-ltb _ 4294967296 (omega (arith, is, few, inside)))

pub known-small : (users : List User) (o : Option ℕ) → list_all is_small users ≡ true → is_user_of users o ≡ true → id_of o < 4294967296
known-small users None small known = omega arith
known-small users (Some id) small known = elim (or_cases (id == guest_id) _ known) [
  | inl guest ↦ let is : id ≡ 500 = eqb-true id 500 guest in omega (arith, is)
  | inr one ↦ among users small one
]
  where
    among : (xs : List User) → list_all is_small xs ≡ true → list_any (λ user. user.id == id) xs ≡ true → id < 4294967296
    among [] small there = absurd (cc)
    among (x ∷ xs) small there =
        let e = and_parts (is_small x) (list_all is_small xs) small in
        elim (or_cases (x.id == id) (list_any (λ user. user.id == id) xs) there) [
          | inl here ↦ let is : x.id ≡ id = eqb-true x.id id here in let low = ltb-true x.id 4294967296 e.0 in omega (arith, is, low)
          | inr later ↦ among xs e.1 later
        ]

-- the user of a session

known-long : (users : List User) (o : Option ℕ) → list_all is_small users ≡ true → is_user_of users o ≡ true → is_long (unwrap_or o guest) ≡ true
known-long users None small known = refl
known-long users (Some id) small known = lt-ltb id 4294967296 (known-small users (Some id) small known)

pub user-long : (w : World) (s : Session) (test : Session → Bool) → find test w.sessions ≡ Some s → IsSound w → is_long (user_of s) ≡ true
user-long w s test found h =
    known-long w.house.users s.user (users-small w.house (house-of w h)) (find-all test (λ x. is_user_of w.house.users x.user) w.sessions s found (users-parts w h.users))
