use Rattle.std.proofs.Common.{◌≡◌, ◌∙◌, ap, sym, refl, subst, List, ℕ, Some, false, is_some}
use Rattle.std.specs.Prelude.{bytes_eq}
use Rattle.std.proofs.lemmas.Bool.{not-true, not-false}
use Rattle.afp_base.specs.declared.code.Code.TheVariants.{Ok, ParamErr, BadVersNum, BadUAM, UserNotAuth}
use Rattle.afp_serial.specs.Login.{user_given}
use Rattle.afp_serial.specs.declared.user.User.{User}
use Rattle.afp_core_state.specs.KeptWorld.{KeptWorld}
use Rattle.afp_core_state.specs.lemma.KeptWorld.{table_in, with_table}
use Rattle.session_table.specs.Sessions.{Becomes}
use Rattle.afp_serial.specs.declared.ask.Told.TheVariants.{Reply}
use Rattle.session_table.specs.Sessions.{session_of}
use Rattle.afp_core_state.proofs.RowLemmas.{is_refused}
use Rattle.afp_core_calls.proofs.OfSession.LoginLemmas.{no-user, none-left, some-user, login-as_nobody, login-has_user, login-passes, login-short, login-uam, login-unknown, login-version, logs-in-runs, not-cleartext, who-nobody, who-user}
use Rattle.afp_core_calls.proofs.session.login.log_in.Goals as goal

pub returns-then-is_some : goal.returns-then-is_some
returns-then-is_some g c = λ call of ends s at.
    let there = ap (λ (k : KeptWorld). session_of k.world.sessions c.args.session.0) c.state.view_is ∙ at in
    let user = ap is_some (sym (c.user.ensures s there)) ∙ sym c.if-is_some.ensures in
    is_refused c.args.state.now _ s call ParamErr _ (login-has_user c.args.state.now.world s c.args.version.now c.args.uam.now c.args.given call of user) c.refused.ensures refl

pub returns-then-not-is_version : goal.returns-then-not-is_version
returns-then-not-is_version g c = λ call of ends s at.
    let there = ap (λ (k : KeptWorld). session_of k.world.sessions c.args.session.0) c.state.view_is ∙ at in
    let user = ap is_some (sym (c.user.ensures s there)) ∙ sym c.if-is_some.ensures in
    is_refused c.args.state.now _ s call BadVersNum _
    (login-version c.args.state.now.world s c.args.version.now c.args.uam.now c.args.given call of user (sym c.is_version.ensures ∙ c.if-not-is_version.true))
    c.refused-then-not-is_version.ensures refl

pub returns-then-eq : goal.returns-then-eq
returns-then-eq g c = λ call of ends s at.
    let there = ap (λ (k : KeptWorld). session_of k.world.sessions c.args.session.0) c.state.view_is ∙ at in
    let user = ap is_some (sym (c.user.ensures s there)) ∙ sym c.if-is_some.ensures in
    let version = sym c.is_version.ensures ∙ c.if-not-is_version.false in
    let nobody = ap (bytes_eq c.args.uam.now) (sym c.as_bytes.ensures.value) ∙ sym c.eq.ensures ∙ c.if-eq.true in
    let other = not-cleartext c.args.uam.now nobody in
    logs-in-runs c.args.state.now _ s c.args.session.0 c.args.version.now c.args.uam.now c.args.given call _ c.set_user.new.self 500 of ends
    (login-as_nobody c.args.state.now.world s c.args.version.now c.args.uam.now c.args.given call of user version nobody other)
    (who-nobody c.args.state.now.world.house.users c.args.uam.now c.args.given other)
    (c.done.ensures ∙ ap (λ (b : List ℕ). Reply Ok b false) c.new.ensures) (ap (λ (k : KeptWorld). with_table k c.set_user.new.self) c.state.view_is) at
    (subst (λ (k : KeptWorld). Becomes (table_in k.world) c.args.session.0 (λ x. record x { user = Some 500 }) c.set_user.new.self) c.state.view_is c.set_user.ensures)

pub returns-then-ne : goal.returns-then-ne
returns-then-ne g c = λ call of ends s at.
    let there = ap (λ (k : KeptWorld). session_of k.world.sessions c.args.session.0) c.state.view_is ∙ at in
    let user = ap is_some (sym (c.user.ensures s there)) ∙ sym c.if-is_some.ensures in
    let version = sym c.is_version.ensures ∙ c.if-not-is_version.false in
    let somebody = ap (bytes_eq c.args.uam.now) (sym c.as_bytes.ensures.value) ∙ sym c.eq.ensures ∙ c.if-eq.false in
    let other = ap (bytes_eq c.args.uam.now) (sym c.as_bytes-2.ensures.value) ∙ not-true _ (sym c.ne.ensures ∙ c.if-ne.true) in
    is_refused c.args.state.now _ s call BadUAM _ (login-uam c.args.state.now.world s c.args.version.now c.args.uam.now c.args.given call of user version somebody other) c.refused-then-ne.ensures refl

pub returns-in_default : goal.returns-in_default
returns-in_default g c = λ call of ends s at.
    let there = ap (λ (k : KeptWorld). session_of k.world.sessions c.args.session.0) c.state.view_is ∙ at in
    let user = ap is_some (sym (c.user.ensures s there)) ∙ sym c.if-is_some.ensures in
    let version = sym c.is_version.ensures ∙ c.if-not-is_version.false in
    let somebody = ap (bytes_eq c.args.uam.now) (sym c.as_bytes.ensures.value) ∙ sym c.eq.ensures ∙ c.if-eq.false in
    let name = ap (bytes_eq c.args.uam.now) (sym c.as_bytes-2.ensures.value) ∙ not-false _ (sym c.ne.ensures ∙ c.if-ne.false) in
    is_refused c.args.state.now _ s call ParamErr _ (login-short c.args.state.now.world s c.args.version.now c.args.uam.now c.args.given call of user version somebody name (none-left c.args.given c.in_default.not-Some)) c.refused-in_default.ensures refl

pub returns-in_default-id_given : goal.returns-in_default-id_given
returns-in_default-id_given g c = λ call of ends s at.
    let there = ap (λ (k : KeptWorld). session_of k.world.sessions c.args.session.0) c.state.view_is ∙ at in
    let user = ap is_some (sym (c.user.ensures s there)) ∙ sym c.if-is_some.ensures in
    let version = sym c.is_version.ensures ∙ c.if-not-is_version.false in
    let somebody = ap (bytes_eq c.args.uam.now) (sym c.as_bytes.ensures.value) ∙ sym c.eq.ensures ∙ c.if-eq.false in
    let name = ap (bytes_eq c.args.uam.now) (sym c.as_bytes-2.ensures.value) ∙ not-false _ (sym c.ne.ensures ∙ c.if-ne.false) in
    let users : c.users.result.now ≡ c.args.state.now.world.house.users = c.users.ensures.value ∙ ap (λ (k : KeptWorld). k.world.house.users) c.state.view_is in
    let unknown = no-user (user_given c.users.result.now (Some c.in-Some.given)) (sym c.id_given.ensures ∙ none-left c.id_given.result c.in_default-id_given.not-Some) in
    is_refused c.args.state.now _ s call UserNotAuth _
    (login-unknown c.args.state.now.world s c.args.version.now c.args.uam.now c.args.given call of user version somebody name c.in-Some.given c.in-Some.is
    (ap (user_given c.args.state.now.world.house.users) c.in-Some.is ∙ ap (λ (l : List User). user_given l (Some c.in-Some.given)) (sym users) ∙ unknown))
    c.refused-in_default-id_given.ensures refl

pub returns : goal.returns
returns g c = λ call of ends s at.
    let there = ap (λ (k : KeptWorld). session_of k.world.sessions c.args.session.0) c.state.view_is ∙ at in
    let user = ap is_some (sym (c.user.ensures s there)) ∙ sym c.if-is_some.ensures in
    let version = sym c.is_version.ensures ∙ c.if-not-is_version.false in
    let somebody = ap (bytes_eq c.args.uam.now) (sym c.as_bytes.ensures.value) ∙ sym c.eq.ensures ∙ c.if-eq.false in
    let name = ap (bytes_eq c.args.uam.now) (sym c.as_bytes-2.ensures.value) ∙ not-false _ (sym c.ne.ensures ∙ c.if-ne.false) in
    let users : c.users.result.now ≡ c.args.state.now.world.house.users = c.users.ensures.value ∙ ap (λ (k : KeptWorld). k.world.house.users) c.state.view_is in
    let known = some-user (user_given c.users.result.now (Some c.in-Some.given)) c.in-Some-id_given.id (sym c.id_given.ensures ∙ c.in-Some-id_given.is) in
    let found = ap (user_given c.args.state.now.world.house.users) c.in-Some.is ∙ ap (λ (l : List User). user_given l (Some c.in-Some.given)) (sym users) ∙ known.1 in
    logs-in-runs c.args.state.now _ s c.args.session.0 c.args.version.now c.args.uam.now c.args.given call _ c.set_user-2.new.self c.in-Some-id_given.id of ends
    (login-passes c.args.state.now.world s c.args.version.now c.args.uam.now c.args.given call of user version somebody name c.in-Some.given c.in-Some.is known.0 found)
    (who-user c.args.state.now.world.house.users c.args.uam.now c.args.given known.0 name found ∙ ap Some known.2)
    (c.done-2.ensures ∙ ap (λ (b : List ℕ). Reply Ok b false) c.new-2.ensures) (ap (λ (k : KeptWorld). with_table k c.set_user-2.new.self) c.state.view_is) at
    (subst (λ (k : KeptWorld). Becomes (table_in k.world) c.args.session.0 (λ x. record x { user = Some c.in-Some-id_given.id }) c.set_user-2.new.self) c.state.view_is c.set_user-2.ensures)
