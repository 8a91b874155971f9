-- Whose sessions are, and who logs in by a password.
use Rattle.std.proofs.Common.{◌≡◌, ◌∙◌, ap, sym, refl, subst, ℕ, Bool, true, false, not, ◌&&◌, cond, List, [], ◌∷◌, take, length, Option, Some, None, inl, inr, ◌⊎◌}
use Rattle.std.specs.Prelude.{◌==◌, bytes_eq, find, is_none, is_some, nat_le, option_map}
use Rattle.std.specs.List.{Contains, list_any}
use Rattle.std.proofs.lemmas.Bool.{and_parts, cond_both, eqb-true, or_cases}
use Rattle.std.proofs.lemmas.Slice.Eq.{bytes_eq-Decides}
use Rattle.afp_base.proofs.ListFacts.{find-all, find-passes}
use Rattle.afp_base.specs.Choice.{first_holding}
use Rattle.afp_base.specs.Limits.{password_size}
use Rattle.afp_base.specs.declared.code.Code.TheVariants.{UserNotAuth}
use Rattle.afp_calls_grammar.specs.grammar.LoginNames.{cleartext}
use Rattle.afp_serial.proofs.SoundParts.{users-parts}
use Rattle.volume_spec.proofs.Ordered.{is-here, is-later}
use Rattle.afp_serial.specs.Login.{Credentials, credentials_at, is_cleartext, is_user, logs_in_row, named, tail_place, user_given}
use Rattle.afp_serial.specs.LoginLaws.{ExtLogsInByPassword, IsInByPassword, LogsInByPassword, LogsInWithoutName, UsersAreKnown}
use Rattle.afp_serial.specs.Rows.{row}
use Rattle.afp_serial.specs.StatusWords.{versions}
use Rattle.afp_serial.specs.Users.{guest_id, is_user_of}
use Rattle.afp_serial.specs.World.{plain, with_session, World, Session}
use Rattle.afp_serial.specs.declared.user.User.{User}

-- whose sessions are

one-of : (users : List User) (id : ℕ) → list_any (λ user. user.id == id) users ≡ true → (user : User) × Contains users user × (user.id ≡ id)
one-of [] id there = absurd (cc)
one-of (x ∷ xs) id there = elim (or_cases (x.id == id) (list_any (λ user. user.id == id) xs) there) [
  | inl here ↦ (x, is-here x xs, eqb-true x.id id here)
  | inr later ↦ let e = one-of xs id later in (e.0, is-later x e.0 xs e.1, e.2)
]

user-known : (users : List User) (o : Option ℕ) (id : ℕ) → is_user_of users o ≡ true → o ≡ Some id → (id ≡ guest_id) ⊎ ((user : User) × Contains users user × (user.id ≡ id))
user-known users None id known is = absurd (cc)
user-known users (Some n) id known is =
    let same : n ≡ id = cc in
    elim (or_cases (n == guest_id) (list_any (λ user. user.id == n) users) known) [
      | inl guest ↦ inl (sym same ∙ eqb-true n guest_id guest)
      | inr one ↦ let e = one-of users n one in inr (e.0, e.1, e.2 ∙ same)
    ]

pub users-are-known : UsersAreKnown
users-are-known w s test id h found is = user-known w.house.users s.user id (find-all test (λ x. is_user_of w.house.users x.user) w.sessions s found (users-parts w h.users)) is

-- who logs in

found-in : (p : User → Bool) (users : List User) (user : User) → find p users ≡ Some user → Contains users user
found-in p [] user is = absurd (cc)
found-in p (x ∷ xs) user is =
    cond_both (p x) (Some x) (find p xs) (λ o. o ≡ Some user → Contains (x ∷ xs) user)
    (λ here h. let same : x ≡ user = cc in subst (λ q. Contains (x ∷ xs) q) same (is-here x xs))
    (λ other h. is-later x user xs (found-in p xs user h))
    is

clear : {A : Type 0} (b : Bool) (x : A) (rest : Option A) → cond b (Some x) rest ≡ None → (b ≡ false) × (rest ≡ None)
clear true x rest h = absurd (cc)
clear false x rest h = (refl, h)

-- what was given, where such a login is not refused
record Given (w : World) (s : Session) (given : Option Credentials) : Type 0 where
  pub is : Credentials
  pub given_is : given ≡ Some is
  pub user : User
  pub found : user_given w.house.users given ≡ Some user

some-user : (w : World) (s : Session) (given : Option Credentials) (user : Option User) → user_given w.house.users given ≡ user → is_none given ≡ false → is_none user ≡ false → Given w s given
some-user w s None user is there known = absurd (cc)
some-user w s (Some g) None is there known = absurd (cc)
some-user w s (Some g) (Some user) is there known = record { is = g; given_is = refl; user = user; found = is }

given-in : (w : World) (s : Session) (version : List ℕ) (given : Option Credentials) → first_holding ((logs_in_row version cleartext given).refusals w s) ≡ None → Given w s given
given-in w s version given passes =
    let first = clear (is_some s.user) _ _ passes in
    let second = clear (not (list_any (bytes_eq version) versions)) _ _ first.1 in
    let fourth = clear (is_cleartext cleartext && is_none given) _ _ second.1 in
    let fifth = clear (is_cleartext cleartext && is_none (user_given w.house.users given)) (plain UserNotAuth) None fourth.1 in
    some-user w s given (user_given w.house.users given) refl fourth.0 fifth.0

in-by-password : (w : World) (s : Session) (version : List ℕ) (given : Option Credentials) (g : Given w s given) → IsInByPassword w s ((logs_in_row version cleartext given).effect w s).world g.is.name g.is.password
in-by-password w s version given g =
    let is : find (is_user g.is) w.house.users ≡ Some g.user = ap (user_given w.house.users) (sym g.given_is) ∙ g.found in
    let e = and_parts (bytes_eq g.user.name g.is.name) (bytes_eq g.user.password g.is.password) (find-passes (is_user g.is) w.house.users g.user is) in
    record {
      user = g.user;
      known = found-in (is_user g.is) w.house.users g.user is;
      name_is = sym ((bytes_eq-Decides g.user.name g.is.name).0 e.0);
      password_is = sym ((bytes_eq-Decides g.user.password g.is.password).0 e.1);
      left = ap (λ (o : Option User). with_session w (record s { user = option_map (λ (user : User). user.id) o })) g.found;
    }

pub logs-in-by-password : LogsInByPassword
unfolding row
logs-in-by-password w s version tail passes =
    let given : Option Credentials = credentials_at (tail_place version cleartext) tail in
    let g : Given w s given = given-in w s version given passes in
    (g.is, g.given_is, in-by-password w s version given g)

named-as : (name bytes : List ℕ) (g : Credentials) → named name bytes ≡ Some g → (g.name ≡ name) × (g.password ≡ take password_size bytes)
named-as name bytes g is =
    cond_both (nat_le password_size (length bytes)) (Some (take password_size bytes)) None
    (λ o. option_map (λ (password : List ℕ). credentials name password) o ≡ Some g → (g.name ≡ name) × (g.password ≡ take password_size bytes))
    (λ long h. let same : credentials name (take password_size bytes) ≡ g = cc in (ap (λ (c : Credentials). c.name) (sym same), ap (λ (c : Credentials). c.password) (sym same)))
    (λ short h. absurd (cc))
    is
  where
    credentials : List ℕ → List ℕ → Credentials
    credentials n p = record { name = n; password = p }

pub ext-logs-in-by-password : ExtLogsInByPassword
unfolding row
ext-logs-in-by-password w s flags version name path_kind path tail passes =
    let given : Option Credentials = named name tail in
    let g : Given w s given = given-in w s version given passes in
    let is = named-as name tail g.is g.given_is in
    let by : IsInByPassword w s ((logs_in_row version cleartext given).effect w s).world g.is.name g.is.password = in-by-password w s version given g in
    record { user = by.user; known = by.known; name_is = sym is.0 ∙ by.name_is; password_is = sym is.1 ∙ by.password_is; left = by.left }

pub logs-in-without-name : LogsInWithoutName
unfolding row
logs-in-without-name w s version tail = refl
