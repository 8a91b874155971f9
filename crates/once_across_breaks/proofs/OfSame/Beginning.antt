-- A client opens the first link of a server that nobody has asked, and logs in: what it is told, and the world behind it.
use Rattle.std.proofs.Common.{◌≡◌, refl, sym, ap, ◌∙◌, ℕ, max, Bool, false, ◌&&◌, ◌+◌, cond, List, [], ◌∷◌, Option, Some, None, arith, lit≤}
use Rattle.std.specs.Prelude.{drop}
use Rattle.std.specs.List.{sum_by}
use Rattle.afp_base.specs.Cached.{Request}
use Rattle.afp_base.specs.declared.code.Code.TheVariants as code
use Rattle.afp_calls_grammar.specs.grammar.Call.{IsSpellable, IsTypedCall, canonical_call, canonical_data}
use Rattle.afp_calls_grammar.specs.grammar.Commands.{get_session_token_command, login_command}
use Rattle.afp_calls_grammar.specs.grammar.Laws.{CanonicalIsReadAgain}
use Rattle.afp_calls_grammar.specs.grammar.Spelt.{is_command, spelt_call}
use Rattle.afp_calls_grammar.specs.declared.grammar.call.Call.{Call}
use Rattle.afp_calls_grammar.specs.declared.grammar.call.Call.TheVariants as calls
use Rattle.afp_replies.specs.Replies.{canonical_reply}
use Rattle.afp_replies.specs.declared.reply.Reply.TheVariants.{Empty, Token}
use Rattle.afp_serial.proofs.Verdicts.{runs-of}
use Rattle.afp_serial.specs.Answer.{Verdict, after, after_at, answer, answer_at, link_number, new_session, refused, repeats, request, runs, told_call, told_verdict, verdict}
use Rattle.afp_serial.specs.History.{answers, entry, is_opened, opened_in, stand}
use Rattle.afp_serial.specs.Household.{Household}
use Rattle.afp_serial.specs.KeptAnswers.{is_kept_command}
use Rattle.afp_serial.specs.Laws.{ComesToCall}
use Rattle.afp_serial.specs.Rows.{effect, row}
use Rattle.afp_serial.specs.SessionViews.{wish_of_call}
use Rattle.afp_serial.specs.Token.{session_token}
use Rattle.afp_serial.specs.Users.{guest_id}
use Rattle.afp_serial.specs.World.{Session, World, at_moment, fresh_world, session_at}
use Rattle.afp_serial.specs.declared.ask.Ask.TheVariants as ask
use Rattle.afp_serial.specs.declared.ask.Entry.{Entry}
use Rattle.afp_serial.specs.declared.ask.Outcome.TheVariants.{Done}
use Rattle.afp_serial.specs.declared.ask.Told.{Told}
use Rattle.afp_serial.specs.declared.ask.Told.TheVariants as told
use Rattle.afp_serial.specs.declared.attachment.Attachment.TheVariants.{Attached}
use Rattle.once_across_breaks.proofs.OfSame.Changing.{back-append, opened-append, opened-one, unasked}
use Rattle.once_across_breaks.proofs.OfSame.Rejoining.{back-none, empty-block, login-alone, login-ask, login-spelt, login-unkept, runs-after, runs-told, spelt-alone}
use Rattle.once_across_breaks.specs.same.Laws.{FirstOpeningsAreTold, TellsFirstOpening}
use Rattle.once_across_breaks.specs.same.Steps.{ask_with, asks_back, asks_token, back_in, begins, call_ask, calls_on, is_back, is_ok, login, quantum}

-- the token's call

pub token-alone : canonical_data asks_token ≡ None
unfolding canonical_data
token-alone = refl

pub token-spelt : CanonicalIsReadAgain → spelt_call (canonical_call asks_token) None ≡ Some asks_token
token-spelt again =
    spelt-alone again asks_token (tt, (tt, (lit≤ tt, (tt, (tt, (tt, tt)))))) (record { fields = (tt, (tt, ((lit≤ tt, lit≤ tt), (lit≤ tt, (refl, (refl, tt)))))); encloses = tt }) token-alone

token-unkept : is_kept_command (canonical_call asks_token) ≡ false
unfolding canonical_call
token-unkept = refl

token-ask : call_ask 2 asks_token ≡ ask.Call 2 false 0 (canonical_call asks_token)
token-ask = ap (ask_with 2 asks_token) token-alone

-- ---- no call opens a session, and of those of an opening none takes one up again

opens-none : (w : World) (s : Option Session) (r : Request) → is_opened (told_call w s r Done) ≡ false
opens-none w None r = refl
opens-none w (Some s) r = by (verdict w s r)
  where
    by : (v : Verdict) → is_opened (told_verdict w s v Done) ≡ false
    by (repeats a) = refl
    by (refused x) = refl
    by (runs c) = refl

call-opens-none : (w : World) (link moment id : ℕ) (call : Call) → canonical_data call ≡ None → is_opened (answer w (calls_on link moment id call)) ≡ false
unfolding answer_at
call-opens-none w link moment id call alone =
    let x : World = at_moment w moment in
    ap (λ d. is_opened (answer_at x link (ask_with id call d) Done)) alone ∙ opens-none x (session_at x link) (request id false 0 (canonical_call call))

takes-none : (id : ℕ) (call : Call) (t : Told) → canonical_data call ≡ None → spelt_call (canonical_call call) None ≡ Some call → ((b : Bool) → asks_back (wish_of_call b (Some call)) ≡ false)
    → is_back (call_ask id call) t ≡ false
takes-none id call t alone spelt none =
    ap (λ d. is_back (ask_with id call d) t) alone
    ∙ ap (λ o. asks_back (wish_of_call (is_kept_command (canonical_call call)) o) && is_ok t) spelt
    ∙ ap (λ b. b && is_ok t) (none (is_kept_command (canonical_call call)))

volume-alone : (bits : ℕ) (name : List ℕ) → canonical_data (calls.OpenVol bits name) ≡ None
unfolding canonical_data
volume-alone bits name = refl

-- ---- the worlds

module _ (house : Household) (moment : ℕ) where
  abbrev pub first_world : World
  first_world = fresh_world house moment

  abbrev pub new_world : World
  new_world = record first_world { next_link = 2; sessions = new_session 1 ∷ [] }

  abbrev pub logged : Session
  logged = record { number = 1; place = Attached (link_number 1); user = Some guest_id; volumes = []; cache = [] }

  abbrev pub logged_world : World
  logged_world = record first_world { next_link = 2; sessions = logged ∷ [] }

  latest-is : max moment moment ≡ moment
  latest-is = omega arith

  now-is : (x : World) → x.latest ≡ moment → at_moment x moment ≡ x
  now-is x same = λ i. record x { latest = (ap (λ (n : ℕ). max n moment) same ∙ latest-is ∙ sym same) i }

  -- Pulse and Open

  pulse-told : answer first_world (entry moment (link_number 0) ask.Pulse Done) ≡ told.Live None
  unfolding answer_at
  pulse-told = ap (λ x. answer_at x 0 ask.Pulse Done) (now-is first_world refl)

  pub swept : after first_world (entry moment (link_number 0) ask.Pulse Done) ≡ first_world
  unfolding after_at
  swept = ap (λ x. after_at x 0 ask.Pulse Done) (now-is first_world refl)

  open-told : answer first_world (entry moment (link_number 0) (ask.Open quantum) Done) ≡ told.Opened (link_number 1)
  unfolding answer_at
  open-told = ap (λ x. answer_at x 0 (ask.Open quantum) Done) (now-is first_world refl)

  pub opened : after first_world (entry moment (link_number 0) (ask.Open quantum) Done) ≡ new_world
  unfolding after_at
  opened = ap (λ x. after_at x 0 (ask.Open quantum) Done) (now-is first_world refl)

  -- FPLogin

  abbrev login_request : Request
  login_request = request 1 false 0 (canonical_call login)

  login-does : effect new_world (new_session 1) login ≡ record { world = logged_world; reply = Empty }
  unfolding row
  login-does = refl

  -- FPGetSessionToken

  abbrev token_request : Request
  token_request = request 2 false 0 (canonical_call asks_token)

  abbrev token : List ℕ
  token = session_token house.token_key 1

  token-does : effect logged_world logged asks_token ≡ record { world = logged_world; reply = Token token }
  unfolding row
  token-does = refl

  module _ (again : CanonicalIsReadAgain) where
    login-comes : ComesToCall new_world (new_session 1) login_request login
    unfolding canonical_call row is_command
    login-comes = record { new = refl; command = login_command; fields = drop 1 (canonical_call login); block = refl; known = refl; user = refl; spelt = login-spelt again; passes = refl }

    login-told : answer new_world (calls_on 1 moment 1 login) ≡ told.Reply code.Ok [] false
    unfolding answer_at
    login-told =
        (λ i. answer_at (now-is new_world refl i) 1 (login-ask i) Done)
        ∙ runs-told new_world (new_session 1) login_request login _ (runs-of new_world (new_session 1) login_request login login-comes) login-does
        ∙ ap (λ b. told.Reply code.Ok b false) empty-block

    pub logged-in : after new_world (calls_on 1 moment 1 login) ≡ logged_world
    unfolding after_at
    logged-in =
        (λ i. after_at (now-is new_world refl i) 1 (login-ask i) Done)
        ∙ runs-after new_world (new_session 1) login_request login _ (runs-of new_world (new_session 1) login_request login login-comes) login-does login-unkept

    token-comes : ComesToCall logged_world logged token_request asks_token
    unfolding canonical_call row is_command
    token-comes = record { new = refl; command = get_session_token_command; fields = drop 1 (canonical_call asks_token); block = refl; known = refl; user = refl; spelt = token-spelt again; passes = refl }

    token-told : answer logged_world (calls_on 1 moment 2 asks_token) ≡ told.Reply code.Ok (canonical_reply (Token token)) false
    unfolding answer_at
    token-told =
        (λ i. answer_at (now-is logged_world refl i) 1 (token-ask i) Done)
        ∙ runs-told logged_world logged token_request asks_token _ (runs-of logged_world logged token_request asks_token token-comes) token-does

    -- all four

    behind-login : stand first_world (begins moment) ≡ logged_world
    behind-login =
        ap (λ x. stand x (entry moment (link_number 0) (ask.Open quantum) Done ∷ calls_on 1 moment 1 login ∷ [])) swept
        ∙ ap (λ x. stand x (calls_on 1 moment 1 login ∷ [])) opened
        ∙ logged-in

    begun : answers first_world (begins moment) ≡ told.Live None ∷ told.Opened (link_number 1) ∷ told.Reply code.Ok [] false ∷ []
    begun =
        (λ i. pulse-told i ∷ answers (swept i) (entry moment (link_number 0) (ask.Open quantum) Done ∷ calls_on 1 moment 1 login ∷ []))
        ∙ (λ i. told.Live None ∷ open-told i ∷ answers (opened i) (calls_on 1 moment 1 login ∷ []))
        ∙ (λ i. told.Live None ∷ told.Opened (link_number 1) ∷ login-told i ∷ [])

    tells-token : answer (stand first_world (begins moment)) (calls_on 1 moment 2 asks_token) ≡ told.Reply code.Ok (canonical_reply (Token token)) false
    tells-token = ap (λ x. answer x (calls_on 1 moment 2 asks_token)) behind-login ∙ token-told

    -- with FPGetSessionToken

    abbrev four : List Entry
    four = entry moment (link_number 0) ask.Pulse Done ∷ entry moment (link_number 0) (ask.Open quantum) Done ∷ calls_on 1 moment 1 login ∷ calls_on 1 moment 2 asks_token ∷ []

    four-told : answers first_world four ≡ told.Live None ∷ told.Opened (link_number 1) ∷ told.Reply code.Ok [] false ∷ told.Reply code.Ok (canonical_reply (Token token)) false ∷ []
    four-told =
        (λ i. pulse-told i ∷ answers (swept i) (entry moment (link_number 0) (ask.Open quantum) Done ∷ calls_on 1 moment 1 login ∷ calls_on 1 moment 2 asks_token ∷ []))
        ∙ (λ i. told.Live None ∷ open-told i ∷ answers (opened i) (calls_on 1 moment 1 login ∷ calls_on 1 moment 2 asks_token ∷ []))
        ∙ (λ i. told.Live None ∷ told.Opened (link_number 1) ∷ login-told i ∷ answers (logged-in i) (calls_on 1 moment 2 asks_token ∷ []))
        ∙ (λ i. told.Live None ∷ told.Opened (link_number 1) ∷ told.Reply code.Ok [] false ∷ token-told i ∷ [])

    four-opened : opened_in first_world four ≡ 1
    four-opened = ap (λ (l : List Told). sum_by (λ t. cond (is_opened t) 1 0) l) four-told

    login-takes : (t : Told) → is_back (call_ask 1 login) t ≡ false
    login-takes t = takes-none 1 login t login-alone (login-spelt again) unasked

    token-takes : (t : Told) → is_back (call_ask 2 asks_token) t ≡ false
    token-takes t = takes-none 2 asks_token t token-alone (token-spelt again) (λ b. refl)

    four-back : back_in first_world four ≡ 0
    four-back =
        back-none first_world (entry moment (link_number 0) ask.Pulse Done) (entry moment (link_number 0) (ask.Open quantum) Done ∷ calls_on 1 moment 1 login ∷ calls_on 1 moment 2 asks_token ∷ []) refl
        ∙ ap (λ x. back_in x (entry moment (link_number 0) (ask.Open quantum) Done ∷ calls_on 1 moment 1 login ∷ calls_on 1 moment 2 asks_token ∷ [])) swept
        ∙ back-none first_world (entry moment (link_number 0) (ask.Open quantum) Done) (calls_on 1 moment 1 login ∷ calls_on 1 moment 2 asks_token ∷ []) refl
        ∙ ap (λ x. back_in x (calls_on 1 moment 1 login ∷ calls_on 1 moment 2 asks_token ∷ [])) opened
        ∙ back-none new_world (calls_on 1 moment 1 login) (calls_on 1 moment 2 asks_token ∷ []) (login-takes (answer new_world (calls_on 1 moment 1 login)))
        ∙ ap (λ x. back_in x (calls_on 1 moment 2 asks_token ∷ [])) logged-in
        ∙ ap (λ b. cond b 1 0 + 0) (token-takes (answer logged_world (calls_on 1 moment 2 asks_token)))

    pub first-told : (bits : ℕ) (name : List ℕ) → IsTypedCall (calls.OpenVol bits name) → IsSpellable (calls.OpenVol bits name) → TellsFirstOpening house moment bits name
    first-told bits name typed spellable =
        let volume : List Entry = calls_on 1 moment 3 (calls.OpenVol bits name) ∷ [] in
        let w : World = stand first_world four in
        let t : Told = answer w (calls_on 1 moment 3 (calls.OpenVol bits name)) in
        let none = call-opens-none w 1 moment 3 (calls.OpenVol bits name) (volume-alone bits name) in
        let takes : is_back (call_ask 3 (calls.OpenVol bits name)) t ≡ false =
        takes-none 3 (calls.OpenVol bits name) t (volume-alone bits name) (spelt-alone again (calls.OpenVol bits name) typed spellable (volume-alone bits name)) unasked in
        record {
          begun = begun;
          token = tells-token;
          opened = opened-append first_world four volume ∙ (λ i. four-opened i + opened-one w (calls_on 1 moment 3 (calls.OpenVol bits name)) t refl none i);
          back = back-append first_world four volume ∙ (λ i. four-back i + (cond (takes i) 1 0 + 0));
        }

pub first-openings-told : CanonicalIsReadAgain → FirstOpeningsAreTold
first-openings-told again house moment bits name typed spellable = first-told house moment again bits name typed spellable
