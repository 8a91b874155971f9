use Rattle.std.proofs.Common.{◌≡◌, ◌≢◌, ◌∙◌, ℕ, List, map, sym, subst, rules}
use Rattle.std.specs.Prelude.{IfErr, IfOk, None, Some}
use Rattle.std.proofs.lemmas.Simd.{map-map}
use Rattle.afp_serial.specs.Household.{Household, household}
use Rattle.afp_serial.specs.HouseFault.{house_fault}
use Rattle.afp_serial.specs.Limits.{first_user_id}
use Rattle.afp_serial.specs.declared.house_fault.HouseFault.TheVariants.{Memory}
use Rattle.afp_serial.specs.declared.user.User.{User}
use Rattle.afpd_lib.specs.words.Places.{VolumeValue}
use Rattle.afpd_lib.specs.declared.words.read.ServerWords.{ServerWords}
use Rattle.afpd_lib.specs.words.lemma.Values.{user_value, values_of, volume_value}
use Rattle.afpd_lib.specs.server.AskedHouse.{house_of, users_from}
use Rattle.afpd_lib.proofs.server.house.house_for.Goals as goal

-- the house of what was read is the one that the words ask for
same_house : (said : ServerWords) (key : List ℕ) (users : List User) (names : List (List ℕ)) → users ≡ users_from first_user_id (map user_value said.users.items)
    → names ≡ map (λ volume. volume.name.now) said.volumes.items → household said.server.now said.signature users names said.message.now key ≡ house_of (values_of said) key
same_house said key users names us ns =
    let volumes = ns ∙ sym (map-map (λ (v : VolumeValue). v.name) volume_value said.volumes.items) in
    cc (us, volumes)

pub returns-clause-house : goal.returns-clause-house
returns-clause-house c =
    subst (λ (h : Household). IfOk c.new.result (λ house. house ≡ h)) (same_house c.args.said.now c.args.token_key _ _ (search rules) (search rules)) c.new.ensures.value

pub returns-clause-sound : goal.returns-clause-sound
returns-clause-sound c =
    subst (λ (h : Household). IfOk c.new.result (λ _. house_fault h ≡ None)) (same_house c.args.said.now c.args.token_key _ _ (search rules) (search rules)) c.new.ensures.sound

pub returns-clause-fault : goal.returns-clause-fault
returns-clause-fault c =
    subst (λ (h : Household). IfErr c.new.result (λ fault. fault ≢ Memory → house_fault h ≡ Some fault)) (same_house c.args.said.now c.args.token_key _ _ (search rules) (search rules)) c.new.ensures.fault
