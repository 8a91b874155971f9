-- The rows of FPGetSessionToken and FPDisconnectOldSession.
use Rattle.std.proofs.Common.{◌≡◌, ◌∙◌, ap, sym, refl, ℕ, ◌==◌, not, true, false, List, [], ◌++◌, append-nil, Option, length}
use Rattle.std.specs.Prelude.{Ok as with_ok, Err}
use Rattle.byteorder.specs.Endian.{big_bytes}
use Rattle.afp_base.specs.Choice.{first_holding}
use Rattle.afp_base.specs.declared.code.Code.{Code}
use Rattle.afp_base.specs.declared.code.Code.TheVariants.{Ok}
use Rattle.afp_base.specs.declared.ids.SessionNumber.{SessionNumber}
use Rattle.afp_calls_grammar.specs.declared.grammar.call.Call.TheVariants.{DisconnectOldSession, GetSessionToken}
use Rattle.afp_serial.specs.Answer.{effect_reply, refusal_reply}
use Rattle.afp_serial.specs.Rows.{row}
use Rattle.afp_serial.specs.SessionToken.{old_session_refusals, rejoins}
use Rattle.afp_serial.specs.Sound.{has_lawful_opens}
use Rattle.afp_serial.specs.Token.{session_token}
use Rattle.afp_serial.specs.World.{with_session, without_session, World, Session}
use Rattle.afp_serial.specs.declared.ask.Told.{Told}
use Rattle.afp_serial.specs.declared.ask.Told.TheVariants.{Reply}
use Rattle.afp_core_state.proofs.ForkLemmas.{session-ends}
use Rattle.afp_core_state.proofs.RowLemmas.{IsRowOf, has_effect, is_refused}
use Rattle.afp_core_state.specs.KeptWorld.{KeptWorld}
use Rattle.afp_core_state.specs.lemma.KeptWorld.{forks_in, table_in, with_forks, with_table}
use Rattle.afp_core_state.specs.Forks.{Forks, left_of}
use Rattle.session_table.specs.Sessions.{Adopts, Table, ended}

token-length : (key : List ℕ) (number : ℕ) → length (session_token key number) ≡ 16
unfolding session_token
token-length key number = refl

pub token-runs : (k : KeptWorld) (s : Session) (n kind : ℕ) (stamp : Option ℕ) (id block : List ℕ) (told : Told) → s.number ≡ n → block ≡ big_bytes 4 16 ++ session_token k.world.house.token_key n → told ≡ Reply Ok block false
    → IsRowOf k s (GetSessionToken kind stamp id) told k
unfolding row
token-runs k s n kind stamp id block told same is tells =
    let token : List ℕ = session_token k.world.house.token_key s.number in
    let here : block ≡ big_bytes 4 16 ++ token = is ∙ ap (λ (m : ℕ). big_bytes 4 16 ++ session_token k.world.house.token_key m) (sym same) in
    let whole : block ≡ (big_bytes 4 (length token) ++ token) ++ [] = here ∙ ap (λ (m : ℕ). big_bytes 4 m ++ token) (sym (token-length k.world.house.token_key s.number)) ∙ sym (append-nil (big_bytes 4 (length token) ++ token)) in
    has_effect k k s (GetSessionToken kind stamp id) told k.world refl (tells ∙ ap (λ (b : List ℕ). Reply Ok b false) whole) refl refl

pub disconnect-refused : (k new : KeptWorld) (s : Session) (kind : ℕ) (token : List ℕ) (t : Table) (code : Code) (told : Told) → Adopts (table_in k.world) s token k.world.latest (Err code) t → told ≡ refusal_reply code → new ≡ with_table k t
    → IsRowOf k s (DisconnectOldSession kind token) told new
unfolding row
disconnect-refused k new s kind token t code told adopts tells is = is_refused k new s (DisconnectOldSession kind token) code told adopts.0 tells (is ∙ ap (with_table k) adopts.1)

pub disconnect-runs : (k new : KeptWorld) (s : Session) (n kind : ℕ) (token : List ℕ) (t : Table) (f : Forks) (number : SessionNumber) (told : Told) → has_lawful_opens k.world ≡ true → s.number ≡ n
    → Adopts (table_in k.world) s token k.world.latest (with_ok number) t → f ≡ left_of (λ o. not (o.session == n)) (forks_in k.world) → told ≡ Reply Ok [] false → new ≡ with_forks (with_table k t) f
    → IsRowOf k s (DisconnectOldSession kind token) told new
unfolding row
disconnect-runs k new s n kind token t f number told lawful same adopts closes tells is =
    let w = k.world in
    let o : Session = adopts.0 in
    let back : Session = record o { place = s.place } in
    let closed : f ≡ left_of (λ x. not (x.session == s.number)) (forks_in w) = closes ∙ ap (λ (m : ℕ). left_of (λ x. not (x.session == m)) (forks_in w)) (sym same) in
    let gone : record w { sessions = ended w.sessions s.number; opens = f.opens; locks = f.locks } ≡ without_session w s.number = session-ends w s.number (ended w.sessions s.number) f lawful refl closed in
    has_effect k new s (DisconnectOldSession kind token) told (with_forks (with_table k t) f).world
    (ap (λ (q : Option Session). first_holding (old_session_refusals s q)) adopts.1 ∙ adopts.2)
    (tells ∙ sym (ap (λ (q : Option Session). effect_reply (DisconnectOldSession kind token) (rejoins w s q)) adopts.1)) is
    (ap (λ (x : Table). (with_forks (with_table k x) f).world) adopts.4 ∙ ap (λ (x : World). with_session x back) gone ∙ sym (ap (λ (q : Option Session). (rejoins w s q).world) adopts.1))
