-- The rows of FPLogin, FPLoginExt and FPLogout.
use Rattle.std.proofs.Common.{◌≡◌, ◌∙◌, ap, sym, refl, ℕ, true, false, List, [], Option, Some, None, is_some}
use Rattle.std.specs.Prelude.{bytes_eq, option_map}
use Rattle.std.specs.List.{list_any}
use Rattle.afp_base.specs.declared.code.Code.TheVariants.{Ok, ParamErr, BadVersNum, BadUAM, UserNotAuth}
use Rattle.std.proofs.lemmas.Slice.Eq.{bytes_eq-Decides}
use Rattle.afp_base.specs.Choice.{first_holding}
use Rattle.afp_replies.specs.Replies.{canonical_reply}
use Rattle.afp_calls_grammar.specs.declared.grammar.call.Call.{Call}
use Rattle.afp_calls_grammar.specs.declared.grammar.call.Call.TheVariants.{Login, LoginExt, Logout}
use Rattle.afp_serial.specs.declared.ask.Told.{Told}
use Rattle.afp_serial.specs.declared.ask.Told.TheVariants.{Reply}
use Rattle.afp_serial.specs.Login.{Credentials, credentials_at, logs_in_row, named, tail_place, user_given, who_logs_in}
use Rattle.afp_serial.specs.Users.{guest_id}
use Rattle.afp_serial.specs.declared.user.User.{User}
use Rattle.afp_serial.specs.World.{CallRow, Effect, plain, with_session, without_session, World, Session}
use Rattle.afp_serial.specs.Rows.{effect, ends_session, row, refusal}
use Rattle.afp_calls_grammar.specs.grammar.LoginNames.{cleartext, no_user}
use Rattle.afp_serial.specs.StatusWords.{versions}
use Rattle.session_table.specs.Sessions.{session_of}
use Rattle.session_table.specs.Sessions.{Becomes, Table}
use Rattle.afp_core_state.specs.KeptWorld.{KeptWorld}
use Rattle.afp_core_state.specs.lemma.KeptWorld.{table_in, with_table}
use Rattle.afp_core_state.proofs.RowLemmas.{IsRowOf, has_effect}

-- FPLogin and FPLoginExt

module _ (w : World) (s : Session) (version uam : List ℕ) (given : Option Credentials) (call : Call) (of : row call ≡ logs_in_row version uam given) where
  refusal-of : refusal w s call ≡ first_holding ((logs_in_row version uam given).refusals w s)
  refusal-of = ap (λ (r : CallRow). first_holding (r.refusals w s)) of

  pub login-has_user : is_some s.user ≡ true → refusal w s call ≡ Some (plain ParamErr)
  login-has_user h = refusal-of ∙ rw h refl

  pub login-version : is_some s.user ≡ false → list_any (bytes_eq version) versions ≡ false → refusal w s call ≡ Some (plain BadVersNum)
  login-version h v = refusal-of ∙ rw (h, v) refl

  pub login-uam : is_some s.user ≡ false → list_any (bytes_eq version) versions ≡ true → bytes_eq uam no_user ≡ false → bytes_eq uam cleartext ≡ false → refusal w s call ≡ Some (plain BadUAM)
  login-uam h v n c = refusal-of ∙ rw (h, v, n, c) refl

  pub login-short : is_some s.user ≡ false → list_any (bytes_eq version) versions ≡ true → bytes_eq uam no_user ≡ false → bytes_eq uam cleartext ≡ true → given ≡ None → refusal w s call ≡ Some (plain ParamErr)
  login-short h v n c g = refusal-of ∙ rw (h, v, n, c, g) refl

  pub login-unknown : is_some s.user ≡ false → list_any (bytes_eq version) versions ≡ true → bytes_eq uam no_user ≡ false → bytes_eq uam cleartext ≡ true → (some : Credentials) → given ≡ Some some → user_given w.house.users given ≡ None
      → refusal w s call ≡ Some (plain UserNotAuth)
  login-unknown h v n c some g u = refusal-of ∙ rw (h, v, n, c, u, g) refl

  pub login-passes : is_some s.user ≡ false → list_any (bytes_eq version) versions ≡ true → bytes_eq uam no_user ≡ false → bytes_eq uam cleartext ≡ true → (some : Credentials) → given ≡ Some some → (user : User) → user_given w.house.users given ≡ Some user
      → refusal w s call ≡ None
  login-passes h v n c some g user u = refusal-of ∙ rw (h, v, n, c, u, g) refl

  pub login-as_nobody : is_some s.user ≡ false → list_any (bytes_eq version) versions ≡ true → bytes_eq uam no_user ≡ true → bytes_eq uam cleartext ≡ false → refusal w s call ≡ None
  login-as_nobody h v n c = refusal-of ∙ rw (h, v, n, c) refl

-- the UAM without a user is not the one by name and password
pub not-cleartext : (uam : List ℕ) → bytes_eq uam no_user ≡ true → bytes_eq uam cleartext ≡ false
not-cleartext uam h = ap (λ (u : List ℕ). bytes_eq u cleartext) ((bytes_eq-Decides uam no_user).0 h)

-- what is done: the session's user is who logs in
pub logs-in-runs : (old new : KeptWorld) (s : Session) (n : ℕ) (version uam : List ℕ) (given : Option Credentials) (call : Call) (told : Told) (t : Table) (id : ℕ)
    → row call ≡ logs_in_row version uam given → ends_session call ≡ false → refusal old.world s call ≡ None → who_logs_in old.world.house.users uam given ≡ Some id
    → told ≡ Reply Ok [] false → new ≡ with_table old t → session_of old.world.sessions n ≡ Some s → Becomes (table_in old.world) n (λ x. record x { user = Some id }) t
    → IsRowOf old s call told new
logs-in-runs old new s n version uam given call told t id of ends passes who tells is at becomes =
    let does : effect old.world s call ≡ (logs_in_row version uam given).effect old.world s = ap (λ (r : CallRow). r.effect old.world s) of in
    has_effect old new s call told (with_table old t).world passes
    (tells ∙ (λ i. Reply Ok (canonical_reply (sym does i).reply) (sym ends i))) is
    (ap (λ (x : Table). (with_table old x).world) (becomes s at) ∙ ap (λ (o : Option ℕ). with_session old.world (record s { user = o })) (sym who) ∙ ap (λ (e : Effect). e.world) (sym does))

-- who logs in, by the UAM
pub who-nobody : (users : List User) (uam : List ℕ) (given : Option Credentials) → bytes_eq uam cleartext ≡ false → who_logs_in users uam given ≡ Some guest_id
who-nobody users uam given c = rw c refl

pub who-user : (users : List User) (uam : List ℕ) (given : Option Credentials) (user : User) → bytes_eq uam cleartext ≡ true → user_given users given ≡ Some user → who_logs_in users uam given ≡ Some user.id
who-user users uam given user c u = rw (c, u) refl

-- the rows of both
pub login-row : (version uam tail : List ℕ) → row (Login version uam tail) ≡ logs_in_row version uam (credentials_at (tail_place version uam) tail)
unfolding row
login-row version uam tail = refl

pub login-ext-row : (flags : ℕ) (version uam name : List ℕ) (path_kind : ℕ) (path tail : List ℕ) → row (LoginExt flags version uam name path_kind path tail) ≡ logs_in_row version uam (named name tail)
unfolding row
login-ext-row flags version uam name path_kind path tail = refl

-- FPLogout
pub logout-runs : (old new : KeptWorld) (s : Session) (told : Told) (n : ℕ) → s.number ≡ n → told ≡ Reply Ok [] true → new ≡ record old { world = without_session old.world n }
    → IsRowOf old s Logout told new
unfolding row
logout-runs old new s told n number tells is = has_effect old new s Logout told _ refl tells is (ap (without_session old.world) (sym number))

-- an option that is no Some is None
pub none-left : {A : Type 0} (q : Option A) → ((a : A) → q ≡ Some a → ⊥) → q ≡ None
none-left None h = refl
none-left (Some a) h = absurd (h a refl)

-- the user whose id is told, or none
pub no-user : (q : Option User) → option_map (λ (user : User). user.id) q ≡ None → q ≡ None
no-user None h = refl
no-user (Some user) h = absurd (cc)

pub some-user : (q : Option User) (id : ℕ) → option_map (λ (user : User). user.id) q ≡ Some id → (user : User) × (q ≡ Some user) × (user.id ≡ id)
some-user None id h = absurd (cc)
some-user (Some user) id h = (user, refl, cc)
