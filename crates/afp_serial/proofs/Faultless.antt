-- What a house without a fault has.
use Rattle.std.proofs.Common.{◌≡◌, ◌≢◌, sym, ℕ, zero, suc, ◌+◌, ◌≤◌, ◌<◌, Bool, true, false, not, ◌&&◌, ◌||◌, List, [], ◌∷◌, length, get_or, take, nat_le, nat_eq, arith, refl, subst}
use Rattle.std.specs.Prelude.{Option, Some, None, option_map, bytes_eq}
use Rattle.std.specs.List.{list_any}
use Rattle.std.proofs.Math.Seq.{length-take-le}
use Rattle.std.proofs.lemmas.List.{get_or-take}
use Rattle.std.proofs.lemmas.Bool.Decides.{nat_tests}
use Rattle.std.proofs.lemmas.Slice.Eq.{bytes_eq-Decides}
use Rattle.std.proofs.lemmas.Bool.{and_parts, leb-true, not-false, or_parts}
use Rattle.afp_serial.specs.declared.house_fault.HouseFault.{HouseFault}
use Rattle.afp_serial.specs.declared.house_fault.HouseFault.TheVariants.{Server, Users, User as UserAt, Volumes, Volume as VolumeAt, Message}
use Rattle.afp_serial.specs.declared.user.User.{User}
use Rattle.afp_serial.specs.Household.{Household}
use Rattle.afp_serial.specs.Limits.{longest_server, longest_user, longest_volume, longest_message, most_users, most_volumes, first_user_id}
use Rattle.afp_serial.specs.HouseFault.{first_bad_name, is_name, is_text, is_bad_user, is_bad_volume, fault_if, first_fault, house_fault}
use Rattle.afp_serial.specs.Faultless.{IsFaultless, NamesFirstBad}
use Rattle.afp_serial.proofs.FirstBad.{none_bad, is_first_bad}

-- where no element passes a test, the one at an index does not
none_passes : {X : Type 0} (test : X → Bool) (xs : List X) → list_any test xs ≡ false → (k : ℕ) (d : X) → k < length xs → test (get_or xs k d) ≡ false
none_passes test [] none k d h = absurd (omega arith)
none_passes test (x ∷ xs) none zero d h = (or_parts (test x) (list_any test xs) none).0
none_passes test (x ∷ xs) none (suc k) d h = none_passes test xs (or_parts (test x) (list_any test xs) none).1 k d (omega arith)

differ : (a b : List ℕ) → bytes_eq a b ≡ false → a ≢ b
differ a b unequal same = cc (unequal, (bytes_eq-Decides a b).1 same)

equal : (m n : ℕ) → nat_eq m n ≡ true → m ≡ n
equal m n holds = grind (arith, nat_tests)

-- what a user has that is not bad behind those before it
pub record IsGoodUser (before : List User) (user : User) : Type 0 where
  pub named : is_name longest_user user.name ≡ true
  pub new : list_any (λ other. bytes_eq other.name user.name) before ≡ false
  pub follows : user.id ≡ first_user_id + length before

good_user : (before : List User) (user : User) → is_bad_user before user ≡ false → IsGoodUser before user
good_user before user good =
    let outer : ((not (is_name longest_user user.name) || list_any (λ other. bytes_eq other.name user.name) before) ≡ false) × (not (nat_eq user.id (first_user_id + length before)) ≡ false) = or_parts _ _ good in
    let inner : (not (is_name longest_user user.name) ≡ false) × (list_any (λ other. bytes_eq other.name user.name) before ≡ false) = or_parts _ _ outer.0 in
    record { named = not-false _ inner.0; new = inner.1; follows = equal _ _ (not-false _ outer.1) }

pub record IsGoodVolume (before : List (List ℕ)) (name : List ℕ) : Type 0 where
  pub named : is_name longest_volume name ≡ true
  pub new : list_any (λ other. bytes_eq other name) before ≡ false

good_volume : (before : List (List ℕ)) (name : List ℕ) → is_bad_volume before name ≡ false → IsGoodVolume before name
good_volume before name good =
    let parts : (not (is_name longest_volume name) ≡ false) × (list_any (λ other. bytes_eq other name) before ≡ false) = or_parts _ _ good in
    record { named = not-false _ parts.0; new = parts.1 }

-- the users and the volumes where none is bad
user_at : (users : List User) → first_bad_name is_bad_user users ≡ None → (k : ℕ) (d : User) → k < length users → IsGoodUser (take k users) (get_or users k d)
user_at users none k d h = good_user _ _ (none_bad is_bad_user users none k d h)

volume_at : (volumes : List (List ℕ)) → first_bad_name is_bad_volume volumes ≡ None → (k : ℕ) (d : List ℕ) → k < length volumes → IsGoodVolume (take k volumes) (get_or volumes k d)
volume_at volumes none k d h = good_volume _ _ (none_bad is_bad_volume volumes none k d h)

id_at : (users : List User) → first_bad_name is_bad_user users ≡ None → (k : ℕ) (d : User) → k < length users → (get_or users k d).id ≡ first_user_id + k
id_at users none k d h = omega (arith, (user_at users none k d h).follows, length-take-le k users (omega arith))

users_differ : (users : List User) → first_bad_name is_bad_user users ≡ None → (j k : ℕ) (d : User) → j < k → k < length users → (get_or users j d).name ≢ (get_or users k d).name
users_differ users none j k d earlier h =
    let new : bytes_eq (get_or (take k users) j d).name (get_or users k d).name ≡ false = none_passes (λ (other : User). bytes_eq other.name (get_or users k d).name) (take k users) (user_at users none k d h).new j d (omega (arith, length-take-le k users (omega arith))) in
    differ _ _ (rw (get_or-take k users j d earlier) at new)

volumes_differ : (volumes : List (List ℕ)) → first_bad_name is_bad_volume volumes ≡ None → (j k : ℕ) (d : List ℕ) → j < k → k < length volumes → get_or volumes j d ≢ get_or volumes k d
volumes_differ volumes none j k d earlier h =
    let new : bytes_eq (get_or (take k volumes) j d) (get_or volumes k d) ≡ false = none_passes (λ (other : List ℕ). bytes_eq other (get_or volumes k d)) (take k volumes) (volume_at volumes none k d h).new j d (omega (arith, length-take-le k volumes (omega arith))) in
    differ _ _ (rw (get_or-take k volumes j d earlier) at new)

-- with no fault, each condition fails
clear :
    (server users : Bool) (user : Option ℕ) (volumes : Bool) (volume : Option ℕ) (message : Bool)
    → first_fault
    (fault_if (not server) Server ∷ fault_if (not users) Users ∷ option_map UserAt user
    ∷ fault_if (not volumes) Volumes ∷ option_map VolumeAt volume ∷ fault_if (not message) Message ∷ []) ≡ None
    → (server ≡ true) × (users ≡ true) × (user ≡ None) × (volumes ≡ true) × (volume ≡ None) × (message ≡ true)
clear false users user volumes volume message none = let never : ⊥ = cc in absurd never
clear true false user volumes volume message none = let never : ⊥ = cc in absurd never
clear true true (Some index) volumes volume message none = let never : ⊥ = cc in absurd never
clear true true None false volume message none = let never : ⊥ = cc in absurd never
clear true true None true (Some index) message none = let never : ⊥ = cc in absurd never
clear true true None true None false none = let never : ⊥ = cc in absurd never
clear true true None true None true none = (refl, refl, refl, refl, refl, refl)

pub faultless : (house : Household) → house_fault house ≡ None → IsFaultless house
unfolding house_fault
faultless house none =
    let each : (is_name longest_server house.server ≡ true) × (nat_le (length house.users) most_users ≡ true) × (first_bad_name is_bad_user house.users ≡ None) × ((nat_le 1 (length house.volumes) && nat_le (length house.volumes) most_volumes) ≡ true) × (first_bad_name is_bad_volume house.volumes ≡ None) × (is_text longest_message house.message ≡ true) = clear _ _ _ _ _ _ none in
    let number : (nat_le 1 (length house.volumes) ≡ true) × (nat_le (length house.volumes) most_volumes ≡ true) = and_parts _ _ each.3 in
    record {
      server = each.0;
      few_users = leb-true _ _ each.1;
      user_names = λ k d h. (user_at house.users each.2 k d h).named;
      user_ids = id_at house.users each.2;
      users_differ = users_differ house.users each.2;
      some_volume = leb-true _ _ number.0;
      few_volumes = leb-true _ _ number.1;
      volume_names = λ k d h. (volume_at house.volumes each.4 k d h).named;
      volumes_differ = volumes_differ house.volumes each.4;
      message = each.5;
    }

pub server_fits : (house : Household) → house_fault house ≡ None → length house.server ≤ longest_server
server_fits house none =
    let named : is_name longest_server house.server ≡ true = (faultless house none).server in
    let text : is_text longest_server house.server ≡ true = (and_parts _ _ named).1 in
    leb-true _ _ (and_parts _ _ text).0

-- a fault with an index names the first bad element
told_index :
    (house : Household) (fault : HouseFault) (server users : Bool) (user : Option ℕ) (volumes : Bool)
    (volume : Option ℕ) (message : Bool)
    → user ≡ first_bad_name is_bad_user house.users
    → volume ≡ first_bad_name is_bad_volume house.volumes
    → first_fault
    (fault_if (not server) Server ∷ fault_if (not users) Users ∷ option_map UserAt user
    ∷ fault_if (not volumes) Volumes ∷ option_map VolumeAt volume ∷ fault_if (not message) Message ∷ []) ≡ Some fault
    → NamesFirstBad fault house
told_index house fault false users user volumes volume message is_user is_volume told =
    let is : Server ≡ fault = cc in subst (λ (f : HouseFault). NamesFirstBad f house) is tt
told_index house fault true false user volumes volume message is_user is_volume told =
    let is : Users ≡ fault = cc in subst (λ (f : HouseFault). NamesFirstBad f house) is tt
told_index house fault true true (Some index) volumes volume message is_user is_volume told =
    let is : UserAt index ≡ fault = cc in
    subst (λ (f : HouseFault). NamesFirstBad f house) is (is_first_bad is_bad_user house.users index (sym is_user))
told_index house fault true true None false volume message is_user is_volume told =
    let is : Volumes ≡ fault = cc in subst (λ (f : HouseFault). NamesFirstBad f house) is tt
told_index house fault true true None true (Some index) message is_user is_volume told =
    let is : VolumeAt index ≡ fault = cc in
    subst (λ (f : HouseFault). NamesFirstBad f house) is (is_first_bad is_bad_volume house.volumes index (sym is_volume))
told_index house fault true true None true None false is_user is_volume told =
    let is : Message ≡ fault = cc in subst (λ (f : HouseFault). NamesFirstBad f house) is tt
told_index house fault true true None true None true is_user is_volume told = let never : ⊥ = cc in absurd never

pub names_first_bad : (house : Household) (fault : HouseFault) → house_fault house ≡ Some fault → NamesFirstBad fault house
unfolding house_fault
names_first_bad house fault told = told_index house fault _ _ _ _ _ _ refl refl told
