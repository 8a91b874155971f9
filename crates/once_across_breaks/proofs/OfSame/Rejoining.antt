-- A client whose link is lost comes back to its session: what it is told, and the world behind it.
use Rattle.std.proofs.Common.{◌≡◌, refl, sym, ap, ◌∙◌, ℕ, suc, max, ◌+◌, ◌<◌, ◌≤◌, ◌^◌, Bool, true, false, not, ◌&&◌, cond, List, [], ◌∷◌, length, Some, None, arith, lit<, lit≤}
use Rattle.std.specs.Prelude.{◌==◌, ◌||◌, drop, filter, find, nat_le}
use Rattle.std.proofs.lemmas.Bool.{cond-false, cond-true, eq-eqb, lt-leb}
use Rattle.afp_base.proofs.Facts.{bytes_true}
use Rattle.afp_base.specs.Cached.{Request, Kept}
use Rattle.afp_base.specs.declared.code.Code.TheVariants as code
use Rattle.afp_calls_grammar.specs.grammar.Call.{IsSpellable, IsTypedCall, canonical_call, canonical_data}
use Rattle.afp_calls_grammar.specs.grammar.Commands.{disconnect_old_session_command, login_command}
use Rattle.afp_calls_grammar.specs.grammar.Laws.{CanonicalIsReadAgain}
use Rattle.afp_calls_grammar.specs.grammar.Spelt.{is_command, spelt_call}
use Rattle.afp_calls_grammar.specs.declared.grammar.call.Call.{Call}
use Rattle.afp_calls_grammar.specs.declared.grammar.call.Call.TheVariants as calls
use Rattle.afp_replies.specs.Replies.{canonical_reply}
use Rattle.afp_replies.specs.declared.reply.Reply.TheVariants.{Empty}
use Rattle.afp_serial.proofs.Verdicts.{runs-of}
use Rattle.afp_serial.specs.Answer.{after, after_at, after_call, after_lost, after_verdict, answer, answer_at, effect_reply, is_full, link_number, new_session, newly_kept, request, runs, told_call, told_parting, refusal_reply, told_verdict, verdict, with_new_session}
use Rattle.afp_serial.specs.History.{answers, entry, stand}
use Rattle.afp_serial.specs.KeptAnswers.{block_of, keeping, kept_answer, is_kept_command}
use Rattle.afp_serial.specs.Laws.{ComesToCall}
use Rattle.afp_serial.specs.Limits.{links_end}
use Rattle.afp_serial.specs.Rows.{effect, refusal, row}
use Rattle.afp_serial.specs.SessionToken.{is_old_session, old_session, old_session_in, old_session_refusals, rejoins as rejoins_with}
use Rattle.afp_serial.specs.SessionViews.{wish_of_call}
use Rattle.afp_serial.specs.Sound.{IsSound}
use Rattle.afp_serial.specs.SweepLaws.{EndsNone}
use Rattle.afp_serial.specs.Token.{session_token}
use Rattle.afp_serial.specs.Users.{guest_id}
use Rattle.afp_serial.specs.World.{Effect, Lock, OpenFork, Session, World, at_moment, ending, has_session, is_expired, is_open, session_at, with_empty_reply, with_session, without_session}
use Rattle.afp_base.specs.Choice.{first_holding}
use Rattle.afp_serial.specs.declared.ask.Ask.TheVariants as ask
use Rattle.afp_serial.specs.declared.ask.Entry.{Entry}
use Rattle.afp_serial.specs.declared.ask.Outcome.TheVariants.{Done}
use Rattle.afp_serial.specs.declared.ask.Told.{Told}
use Rattle.afp_serial.specs.declared.ask.Told.TheVariants as told
use Rattle.afp_serial.specs.declared.attachment.Attachment.TheVariants.{Attached, Detached}
use Rattle.once_across_breaks.proofs.OfSame.Rows.{held}
use Rattle.once_across_breaks.specs.same.Laws.{on_link}
use Rattle.once_across_breaks.specs.same.Steps.{ask_with, asks_back, back_in, call_ask, calls_on, is_back, is_ok, login, quantum, rejoins}

-- all that is open and locked is the session's of that number
pub record IsOwned (w : World) (number : ℕ) : Type 0 where
  pub opens : filter (λ (o : OpenFork). (number == o.session) || false) w.opens ≡ w.opens
  pub locks : filter (λ (lock : Lock). is_open w.opens lock.reference) w.locks ≡ w.locks

-- so it is in a sound world of one session
pub owned : EndsNone → (w : World) (s : Session) (link next : ℕ) → IsSound (held w s link next) → IsOwned w s.number
owned none w s link next sound =
    let same = none (held w s link next) sound refl in
    let opens : filter (λ (o : OpenFork). (s.number == o.session) || false) w.opens ≡ w.opens = ap (λ (x : World). x.opens) same in
    let locks : filter (λ (lock : Lock). is_open (filter (λ (o : OpenFork). (s.number == o.session) || false) w.opens) lock.reference) w.locks ≡ w.locks = ap (λ (x : World). x.locks) same in
    record { opens = opens; locks = ap (λ (l : List OpenFork). filter (λ (lock : Lock). is_open l lock.reference) w.locks) (sym opens) ∙ locks }

-- where one session is left, nothing else ends
ends-but : (w : World) (t : Session) (stays : Session → Bool) → IsOwned w t.number → filter stays w.sessions ≡ t ∷ [] → ending w stays ≡ record w { sessions = t ∷ [] }
ends-but w t stays own left =
    (λ i. record w { sessions = left i; opens = filter (λ o. has_session (left i) o.session) w.opens; locks = filter (λ (lock : Lock). is_open (filter (λ o. has_session (left i) o.session) w.opens) lock.reference) w.locks })
    ∙ (λ i. record w { sessions = t ∷ []; opens = own.opens i; locks = filter (λ (lock : Lock). is_open (own.opens i) lock.reference) w.locks })
    ∙ (λ i. record w { sessions = t ∷ []; locks = own.locks i })

-- requests are read as their calls

pub spelt-alone : CanonicalIsReadAgain → (call : Call) → IsTypedCall call → IsSpellable call → canonical_data call ≡ None → spelt_call (canonical_call call) None ≡ Some call
spelt-alone again call typed spellable none = ap (spelt_call (canonical_call call)) (sym none) ∙ again call typed spellable

pub login-alone : canonical_data login ≡ None
unfolding canonical_data
login-alone = refl

back-alone : (token : List ℕ) → canonical_data (calls.DisconnectOldSession 0 token) ≡ None
unfolding canonical_data
back-alone token = refl

pub login-spelt : CanonicalIsReadAgain → spelt_call (canonical_call login) None ≡ Some login
login-spelt again = spelt-alone again login (tt, (tt, (tt, (tt, tt)))) (record { fields = (tt, (lit< tt, (lit< tt, (tt, tt)))); encloses = tt }) login-alone

back-spelt : CanonicalIsReadAgain → (token : List ℕ) → length token < 256 ^ 4 → spelt_call (canonical_call (calls.DisconnectOldSession 0 token)) None ≡ Some (calls.DisconnectOldSession 0 token)
back-spelt again token small =
    spelt-alone again (calls.DisconnectOldSession 0 token) (tt, (tt, (lit≤ tt, (tt, tt)))) (record { fields = (tt, (tt, (tt, (small, tt)))); encloses = tt }) (back-alone token)

pub login-unkept : is_kept_command (canonical_call login) ≡ false
unfolding canonical_call
login-unkept = refl

pub login-ask : call_ask 1 login ≡ ask.Call 1 false 0 (canonical_call login)
login-ask = ap (ask_with 1 login) login-alone

pub empty-block : canonical_reply Empty ≡ []
empty-block = refl

token-long : (key : List ℕ) (number : ℕ) → length (session_token key number) ≡ 16
unfolding session_token
token-long key number = refl

-- a verdict and what comes of it, where a call runs whose answer is not kept

pub runs-told : (w : World) (s : Session) (r : Request) (call : Call) (e : Effect) → verdict w s r ≡ runs call → effect w s call ≡ e → told_call w (Some s) r Done ≡ effect_reply call e
runs-told w s r call e is does = ap (λ v. told_verdict w s v Done) is ∙ ap (effect_reply call) does

kept-none : (r : Request) (call : Call) (e : Effect) → is_kept_command (block_of r) ≡ false → kept_answer r (effect_reply call e) ≡ None
kept-none r call e off = ap (λ b. cond b (Some (record { code = code.Ok; block = canonical_reply e.reply })) None) off

pub runs-after : (w : World) (s : Session) (r : Request) (call : Call) (e : Effect) → verdict w s r ≡ runs call → effect w s call ≡ e → is_kept_command (block_of r) ≡ false → after_call w (Some s) r Done ≡ e.world
runs-after w s r call e is does off =
    ap (λ v. keeping (after_verdict w s v Done) s.number r (newly_kept r v (told_verdict w s v Done))) is
    ∙ ap (λ (x : Effect). keeping x.world s.number r (kept_answer r (effect_reply call x))) does
    ∙ ap (keeping e.world s.number r) (kept-none r call e off)

-- what takes up no session again counts for nothing
pub back-none : (w : World) (e : Entry) (es : List Entry) → is_back e.ask (answer w e) ≡ false → back_in w (e ∷ es) ≡ back_in (after w e) es
back-none w e es none = ap (λ b. cond b 1 0 + back_in (after w e) es) none ∙ omega arith

module _ (again : CanonicalIsReadAgain) (w : World) (moment : ℕ) (latest : max w.latest moment ≡ w.latest)
    (number link : ℕ) (volumes : List ℕ) (cache : List Kept)
    (own : IsOwned w number) (other : (number == suc link) ≡ false) (room : suc link < links_end) where
  abbrev token : List ℕ
  token = session_token w.house.token_key number

  abbrev client : Session
  client = record { number = number; place = Attached (link_number link); user = Some guest_id; volumes = volumes; cache = cache }

  abbrev waiting : Session
  waiting = record { number = number; place = Detached w.latest; user = Some guest_id; volumes = volumes; cache = cache }

  abbrev fresh : Session
  fresh = new_session (suc link)

  abbrev logged : Session
  logged = record { number = suc link; place = Attached (link_number (suc link)); user = Some guest_id; volumes = []; cache = [] }

  abbrev lost_world : World
  lost_world = record w { next_link = suc link; sessions = waiting ∷ [] }

  abbrev opened_world : World
  opened_world = record w { next_link = suc link + 1; sessions = waiting ∷ fresh ∷ [] }

  abbrev logged_world : World
  logged_world = record w { next_link = suc link + 1; sessions = waiting ∷ logged ∷ [] }

  -- the moment stays
  now-is : (x : World) → x.latest ≡ w.latest → at_moment x moment ≡ x
  now-is x same = λ i. record x { latest = (ap (λ (n : ℕ). max n moment) same ∙ latest ∙ sym same) i }

  itself : (number == number) ≡ true
  itself = eq-eqb number number refl

  own-link : (suc link == suc link) ≡ true
  own-link = eq-eqb (suc link) (suc link) refl

  not-expired : nat_le (w.latest + 600) w.latest ≡ false
  not-expired = lt-leb (w.latest + 600) w.latest (omega arith)

  -- Lost

  at-first : session_at (held w client link (suc link)) link ≡ Some client
  at-first = cond-true (link == link) (Some client) None (eq-eqb link link refl)

  lost-told : answer (held w client link (suc link)) (entry moment (link_number link) ask.Lost Done) ≡ told.Done
  unfolding answer_at
  lost-told = ap (λ x. answer_at x link ask.Lost Done) (now-is (held w client link (suc link)) refl) ∙ ap told_parting at-first

  lost-left : after (held w client link (suc link)) (entry moment (link_number link) ask.Lost Done) ≡ lost_world
  unfolding after_at
  lost-left =
      ap (λ x. after_at x link ask.Lost Done) (now-is (held w client link (suc link)) refl)
      ∙ ap (after_lost (held w client link (suc link))) at-first
      ∙ ap (λ b. record w { next_link = suc link; sessions = cond b waiting client ∷ [] }) itself

  -- Pulse

  none-at : session_at lost_world 0 ≡ None
  none-at = refl

  pulse-told : answer lost_world (entry moment (link_number 0) ask.Pulse Done) ≡ told.Live w.drain
  unfolding answer_at
  pulse-told = ap (λ x. answer_at x 0 ask.Pulse Done) (now-is lost_world refl)

  pulse-left : after lost_world (entry moment (link_number 0) ask.Pulse Done) ≡ lost_world
  unfolding after_at
  pulse-left =
      ap (λ x. after_at x 0 ask.Pulse Done) (now-is lost_world refl)
      ∙ ends-but lost_world waiting (λ s. not (is_expired w.latest s.place)) (record { opens = own.opens; locks = own.locks }) (ap (λ b. cond (not b) (waiting ∷ []) []) not-expired)

  -- Open

  has-room : is_full lost_world ≡ false
  has-room = lt-leb links_end (suc link) room

  open-told : answer lost_world (entry moment (link_number 0) (ask.Open quantum) Done) ≡ told.Opened (link_number (suc link))
  unfolding answer_at
  open-told = ap (λ x. answer_at x 0 (ask.Open quantum) Done) (now-is lost_world refl) ∙ cond-false (is_full lost_world) (refusal_reply code.NoMoreSessions) (told.Opened (link_number (suc link))) has-room

  open-left : after lost_world (entry moment (link_number 0) (ask.Open quantum) Done) ≡ opened_world
  unfolding after_at
  open-left = ap (λ x. after_at x 0 (ask.Open quantum) Done) (now-is lost_world refl) ∙ cond-false (is_full lost_world) lost_world (with_new_session lost_world) has-room

  -- FPLogin

  abbrev login_request : Request
  login_request = request 1 false 0 (canonical_call login)

  at-fresh : session_at opened_world (suc link) ≡ Some fresh
  at-fresh = cond-true (suc link == suc link) (Some fresh) None own-link

  login-comes : ComesToCall opened_world fresh login_request login
  unfolding canonical_call row is_command
  login-comes = record {
    new = refl;
    command = login_command;
    fields = drop 1 (canonical_call login);
    block = refl;
    known = refl;
    user = refl;
    spelt = login-spelt again;
    passes = refl;
  }

  login-does : effect opened_world fresh login ≡ record { world = logged_world; reply = Empty }
  unfolding row
  login-does = λ i. record { world = record w { next_link = suc link + 1; sessions = cond (other i) logged waiting ∷ cond (own-link i) logged fresh ∷ [] }; reply = Empty }

  login-told : answer opened_world (calls_on (suc link) moment 1 login) ≡ told.Reply code.Ok [] false
  unfolding answer_at
  login-told =
      (λ i. answer_at (now-is opened_world refl i) (suc link) (login-ask i) Done)
      ∙ ap (λ o. told_call opened_world o login_request Done) at-fresh
      ∙ runs-told opened_world fresh login_request login _ (runs-of opened_world fresh login_request login login-comes) login-does
      ∙ ap (λ b. told.Reply code.Ok b false) empty-block

  login-left : after opened_world (calls_on (suc link) moment 1 login) ≡ logged_world
  unfolding after_at
  login-left =
      (λ i. after_at (now-is opened_world refl i) (suc link) (login-ask i) Done)
      ∙ ap (λ o. after_call opened_world o login_request Done) at-fresh
      ∙ runs-after opened_world fresh login_request login _ (runs-of opened_world fresh login_request login login-comes) login-does login-unkept

  -- FPDisconnectOldSession

  abbrev back : Call
  back = calls.DisconnectOldSession 0 token

  abbrev back_request : Request
  back_request = request 2 false 0 (canonical_call back)

  at-logged : session_at logged_world (suc link) ≡ Some logged
  at-logged = cond-true (suc link == suc link) (Some logged) None own-link

  the-old : old_session_in logged_world logged token ≡ Some waiting
  unfolding old_session
  the-old =
      λ i. cond (not (other i) && (not (not-expired i) && bytes_true token token refl i)) (Some waiting) (find (is_old_session w.house.token_key w.latest (suc link) token) (logged ∷ []))

  back-passes : refusal logged_world logged back ≡ None
  unfolding row
  back-passes = ap (λ o. first_holding (old_session_refusals logged o)) the-old

  token-small : length token < 256 ^ 4
  token-small = let long = token-long w.house.token_key number in let room : 17 ≤ 256 ^ 4 = lit≤ tt in omega (arith, long, room)

  back-comes : ComesToCall logged_world logged back_request back
  unfolding canonical_call is_command
  back-comes = record {
    new = refl;
    command = disconnect_old_session_command;
    fields = drop 1 (canonical_call back);
    block = refl;
    known = refl;
    user = refl;
    spelt = back-spelt again token token-small;
    passes = back-passes;
  }

  without-new : without_session logged_world (suc link) ≡ record w { next_link = suc link + 1; sessions = waiting ∷ [] }
  without-new =
      ends-but logged_world waiting (λ s. not (s.number == suc link)) (record { opens = own.opens; locks = own.locks })
      (λ i. cond (not (other i)) (waiting ∷ cond (not (own-link i)) (logged ∷ []) []) (cond (not (own-link i)) (logged ∷ []) []))

  back-does : effect logged_world logged back ≡ record { world = held w client (suc link) (suc link + 1); reply = Empty }
  unfolding row
  back-does =
      ap (rejoins_with logged_world logged) the-old
      ∙ ap (λ (x : World). with_empty_reply (with_session x (on_link (suc link) client))) without-new
      ∙ ap (λ b. with_empty_reply (record w { next_link = suc link + 1; sessions = cond b (on_link (suc link) client) waiting ∷ [] })) itself

  back-unkept : is_kept_command (canonical_call back) ≡ false
  unfolding canonical_call
  back-unkept = refl

  back-ask : call_ask 2 back ≡ ask.Call 2 false 0 (canonical_call back)
  back-ask = ap (ask_with 2 back) (back-alone token)

  back-told : answer logged_world (calls_on (suc link) moment 2 back) ≡ told.Reply code.Ok [] false
  unfolding answer_at
  back-told =
      (λ i. answer_at (now-is logged_world refl i) (suc link) (back-ask i) Done)
      ∙ ap (λ o. told_call logged_world o back_request Done) at-logged
      ∙ runs-told logged_world logged back_request back _ (runs-of logged_world logged back_request back back-comes) back-does
      ∙ ap (λ b. told.Reply code.Ok b false) empty-block

  back-left : after logged_world (calls_on (suc link) moment 2 back) ≡ held w client (suc link) (suc link + 1)
  unfolding after_at
  back-left =
      (λ i. after_at (now-is logged_world refl i) (suc link) (back-ask i) Done)
      ∙ ap (λ o. after_call logged_world o back_request Done) at-logged
      ∙ runs-after logged_world logged back_request back _ (runs-of logged_world logged back_request back back-comes) back-does back-unkept

  -- all five

  pub rejoined : stand (held w client link (suc link)) (rejoins token link moment) ≡ held w client (suc link) (suc (suc link))
  rejoined =
      ap (λ x. stand x (entry moment (link_number 0) ask.Pulse Done ∷ entry moment (link_number 0) (ask.Open quantum) Done ∷ calls_on (suc link) moment 1 login ∷ calls_on (suc link) moment 2 back ∷ [])) lost-left
      ∙ ap (λ x. stand x (entry moment (link_number 0) (ask.Open quantum) Done ∷ calls_on (suc link) moment 1 login ∷ calls_on (suc link) moment 2 back ∷ [])) pulse-left
      ∙ ap (λ x. stand x (calls_on (suc link) moment 1 login ∷ calls_on (suc link) moment 2 back ∷ [])) open-left
      ∙ ap (λ x. stand x (calls_on (suc link) moment 2 back ∷ [])) login-left
      ∙ back-left
      ∙ ap (held w client (suc link)) (omega arith)

  pub rejoining-told : answers (held w client link (suc link)) (rejoins token link moment)
      ≡ told.Done ∷ told.Live w.drain ∷ told.Opened (link_number (suc link)) ∷ told.Reply code.Ok [] false ∷ told.Reply code.Ok [] false ∷ []
  rejoining-told =
      (λ i. lost-told i ∷ answers (lost-left i) (entry moment (link_number 0) ask.Pulse Done ∷ entry moment (link_number 0) (ask.Open quantum) Done ∷ calls_on (suc link) moment 1 login ∷ calls_on (suc link) moment 2 back ∷ []))
      ∙ (λ i. told.Done ∷ pulse-told i ∷ answers (pulse-left i) (entry moment (link_number 0) (ask.Open quantum) Done ∷ calls_on (suc link) moment 1 login ∷ calls_on (suc link) moment 2 back ∷ []))
      ∙ (λ i. told.Done ∷ told.Live w.drain ∷ open-told i ∷ answers (open-left i) (calls_on (suc link) moment 1 login ∷ calls_on (suc link) moment 2 back ∷ []))
      ∙ (λ i. told.Done ∷ told.Live w.drain ∷ told.Opened (link_number (suc link)) ∷ login-told i ∷ answers (login-left i) (calls_on (suc link) moment 2 back ∷ []))
      ∙ (λ i. told.Done ∷ told.Live w.drain ∷ told.Opened (link_number (suc link)) ∷ told.Reply code.Ok [] false ∷ back-told i ∷ [])

  -- one of them takes up a session again

  login-back : (t : Told) → is_back (call_ask 1 login) t ≡ false
  login-back t =
      ap (λ a. is_back a t) login-ask
      ∙ ap (λ w. asks_back w && is_ok t) (ap (wish_of_call (is_kept_command (canonical_call login))) (login-spelt again) ∙ ap (λ b. wish_of_call b (Some login)) login-unkept)

  back-back : is_back (call_ask 2 back) (answer logged_world (calls_on (suc link) moment 2 back)) ≡ true
  back-back =
      (λ i. is_back (back-ask i) (back-told i)) ∙ ap (λ o. asks_back (wish_of_call (is_kept_command (canonical_call back)) o) && true) (back-spelt again token token-small)

  pub rejoining-back : back_in (held w client link (suc link)) (rejoins token link moment) ≡ 1
  rejoining-back =
      back-none (held w client link (suc link)) (entry moment (link_number link) ask.Lost Done) (entry moment (link_number 0) ask.Pulse Done ∷ entry moment (link_number 0) (ask.Open quantum) Done ∷ calls_on (suc link) moment 1 login ∷ calls_on (suc link) moment 2 back ∷ []) refl
      ∙ ap (λ x. back_in x (entry moment (link_number 0) ask.Pulse Done ∷ entry moment (link_number 0) (ask.Open quantum) Done ∷ calls_on (suc link) moment 1 login ∷ calls_on (suc link) moment 2 back ∷ [])) lost-left
      ∙ back-none lost_world (entry moment (link_number 0) ask.Pulse Done) (entry moment (link_number 0) (ask.Open quantum) Done ∷ calls_on (suc link) moment 1 login ∷ calls_on (suc link) moment 2 back ∷ []) refl
      ∙ ap (λ x. back_in x (entry moment (link_number 0) (ask.Open quantum) Done ∷ calls_on (suc link) moment 1 login ∷ calls_on (suc link) moment 2 back ∷ [])) pulse-left
      ∙ back-none lost_world (entry moment (link_number 0) (ask.Open quantum) Done) (calls_on (suc link) moment 1 login ∷ calls_on (suc link) moment 2 back ∷ []) refl
      ∙ ap (λ x. back_in x (calls_on (suc link) moment 1 login ∷ calls_on (suc link) moment 2 back ∷ [])) open-left
      ∙ back-none opened_world (calls_on (suc link) moment 1 login) (calls_on (suc link) moment 2 back ∷ []) (login-back (answer opened_world (calls_on (suc link) moment 1 login)))
      ∙ ap (λ x. back_in x (calls_on (suc link) moment 2 back ∷ [])) login-left
      ∙ ap (λ b. cond b 1 0 + 0) back-back
