-- The serial file server meets the laws of asks.
use Rattle.std.proofs.Common.{◌≡◌, ◌≢◌, ◌∙◌, ◌⊎◌, inl, inr, refl, sym, ap, subst, ℕ, true, false, List, [], Option, Some, None}
use Rattle.std.specs.Prelude.{nat_eq}
use Rattle.std.proofs.lemmas.Bool.{and_parts, eq-eqb, false≢true}
use Rattle.afp_base.specs.Cached as base
use Rattle.afp_base.specs.Cached.{Request, cached_answer}
use Rattle.afp_base.specs.declared.code.Code.{Code}
use Rattle.afp_base.specs.declared.code.Code.TheVariants as code
use Rattle.afp_calls_grammar.specs.grammar.Laws.{CanonicalIsReadAgain}
use Rattle.afp_serial.specs.declared.ask.Outcome.TheVariants as outcome
use Rattle.afp_serial.specs.declared.ask.Told as tolds
use Rattle.afp_serial.specs.declared.ask.Told.TheVariants as told
use Rattle.afp_serial.specs.KeptAnswers.{block_of, is_kept, is_kept_code, is_kept_command}
use Rattle.afp_serial.specs.SessionViews as views
use Rattle.afp_serial.specs.SessionViews.{AskChanges, AsksKept, AsksToken, AsksUnkept, CallChanges, ComesBack, IsAnswered, LogsOut, SessionWish, wish_of}
use Rattle.afp_serial.specs.Token.{session_token}
use Rattle.once_across_breaks.specs.once.Messages.{Body, Command, Does, Login, Logout, Other, Rejoin, Sent, Token, body_by, cached_call, is_fine, is_miss, request_of, token_in}
use Rattle.once_across_breaks.specs.once.Server.{Answers, Ask, AskLaw, Bye, CallLaw, Calls, Displaced, Drain, Fault, Live, Lost, Open, Outcome, Pulse, Ran, Sends, ended}
use Rattle.once_across_breaks.specs.once.Serial.{Setup, answer_by, ask_of, carried, outcome_of, told_of, view_of, written}
use Rattle.once_across_breaks.proofs.OfOnce.Caches.{cached-newest, read, read_option}
use Rattle.once_across_breaks.proofs.OfOnce.Views.{view-adopted, view-ended, view-opened, view-stored}
use Rattle.once_across_breaks.proofs.OfOnce.Wishes.{back-wish, carried-is, carried-small, fine-is, logout-wish, reply-token, token-long, token-wish}

-- ---- answers

not-fine : (c : Code) (block : List ℕ) → c ≢ code.Ok → is_fine (answer_by c block) ≡ false
not-fine code.Ok block other = absurd (other refl)
not-fine code.MiscErr block other = refl
not-fine code.NoMemory block other = refl
not-fine c block other = refl

kept-is-no-miss : (c : Code) (block : List ℕ) → is_kept_code c ≡ true → is_miss (answer_by c block) ≡ false
kept-is-no-miss code.Ok block kept = refl
kept-is-no-miss code.MiscErr block kept = absurd (cc)
kept-is-no-miss code.NoMemory block kept = absurd (cc)
kept-is-no-miss c block kept = refl

-- ---- calls, by what they ask

-- what a fault tells
abbrev FaultTells : Outcome → tolds.Told → Type 0
FaultTells o t = o ≡ Fault → t ≡ told.Reply code.MiscErr [] false

answered : (v v' : views.View) (t : tolds.Told) (a : base.Answer) → IsAnswered v t v' a → Answers (view_of v) (told_of t) (view_of v') (read a)
answered v v' t a law = record { told = ap told_of law.tells; left = ap view_of law.left }

unkept-law : (key : List ℕ) (n : ℕ) (v v' : views.View) (l k id : ℕ) (r : Request) (o : Outcome) (t : tolds.Told) → CallChanges key n v l k r (outcome_of o) t v' AsksUnkept → CallLaw (session_token key) n (view_of v) l k id Login o (told_of t) (view_of v')
unkept-law key n v v' l k id r o t (a, law) = (read a, answered v v' t a law)

token-law : (key : List ℕ) (n : ℕ) (v v' : views.View) (l k id : ℕ) (r : Request) (o : Outcome) (t : tolds.Told) → CallChanges key n v l k r (outcome_of o) t v' AsksToken → CallLaw (session_token key) n (view_of v) l k id Token o (told_of t) (view_of v')
token-law key n v v' l k id r o t (a, law, tells) = (
  read a,
  answered v v' t a law,
  λ b is. let f = fine-is a.code a.block b is in ap token_in (sym f.1 ∙ tells f.0) ∙ reply-token (session_token key k) (token-long key k),
)

back-law : (key : List ℕ) (n : ℕ) (v v' : views.View) (l k id : ℕ) (r : Request) (o : Outcome) (t : tolds.Told) (x y : List ℕ) → ((m : ℕ) → y ≡ session_token key m → x ≡ session_token key m)
    → CallChanges key n v l k r (outcome_of o) t v' (ComesBack y) → CallLaw (session_token key) n (view_of v) l k id (Rejoin x) o (told_of t) (view_of v')
back-law key n v v' l k id r o t x y same (inl (a, law, bad)) = inl (read a, answered v v' t a law, not-fine a.code a.block bad)
back-law key n v v' l k id r o t x y same (inr (m, law)) = inr (
  m,
  [],
  record {
    is_token = same m law.is_token;
    other = law.other;
    drawn = law.drawn;
    told = ap told_of law.tells;
    left = ap view_of law.left ∙ view-adopted n v l k m;
  },
)

ran-alone : (o : Outcome) → outcome_of o ≡ outcome.Done → o ≡ Ran
ran-alone Ran is = refl
ran-alone Fault is = absurd (cc)

fault-alone : (o : Outcome) → outcome_of o ≡ outcome.Fault → o ≡ Fault
fault-alone Ran is = absurd (cc)
fault-alone Fault is = refl

logout-law : (key : List ℕ) (n : ℕ) (v v' : views.View) (l k id : ℕ) (r : Request) (o : Outcome) (t : tolds.Told) → CallChanges key n v l k r (outcome_of o) t v' LogsOut → CallLaw (session_token key) n (view_of v) l k id (Does Logout) o (told_of t) (view_of v')
logout-law key n v v' l k id r o t law = ([], ap told_of law.tells, ap view_of law.left ∙ view-ended n v l k, ran-alone o law.done)

-- what is kept is told of no fault
kept-ran : (o : Outcome) (t : tolds.Told) (r : Request) (a : base.Answer) → FaultTells o t → is_kept r a.code ≡ true → t ≡ told.Reply a.code a.block false → o ≡ Ran
kept-ran Ran t r a fault kept is = refl
kept-ran Fault t r a fault kept is =
    let e : told.Reply a.code a.block false ≡ told.Reply code.MiscErr [] false = sym is ∙ fault refl in
    let same : a.code ≡ code.MiscErr = cc in
    absurd (false≢true (ap is_kept_code (sym same) ∙ (and_parts (is_kept_code a.code) (is_kept_command (block_of r)) kept).0))

found : (v : views.View) (n k id : ℕ) (command : Command) (o : Option base.Answer) → (nat_eq k n ≡ true → cached_answer v.cache (request_of id command.sent) ≡ o) → k ≡ n → cached_call (view_of v).cache id (Other command) ≡ read_option o
found v n k id command o is same = cached-newest v.cache (request_of id command.sent) ∙ ap read_option (is (eq-eqb k n same))

kept-law : (key : List ℕ) (n : ℕ) (v v' : views.View) (l k id : ℕ) (command : Command) (o : Outcome) (t : tolds.Told) → FaultTells o t
    → CallChanges key n v l k (request_of id command.sent) (outcome_of o) t v' AsksKept → CallLaw (session_token key) n (view_of v) l k id (Does (Other command)) o (told_of t) (view_of v')
kept-law key n v v' l k id command o t fault (inl (a, law)) =
    inl (read a, record { is_kept = found v n k id command (Some a) law.kept; told = ap told_of law.answered.tells; left = ap view_of law.answered.left })
kept-law key n v v' l k id command o t fault (inr (inl law)) =
    inr (inl (record { none_kept = found v n k id command None law.new; fault = fault-alone o law.fault; told = ap told_of law.answered.tells; left = ap view_of law.answered.left }))
kept-law key n v v' l k id command o t fault (inr (inr (a, law))) = inr (inr (
  read a,
  record {
    none_kept = found v n k id command None law.new;
    ran = kept-ran o t (request_of id command.sent) a fault law.keeps law.tells;
    no_miss = kept-is-no-miss a.code a.block (and_parts (is_kept_code a.code) (is_kept_command (block_of (request_of id command.sent))) law.keeps).0;
    told = ap told_of law.tells;
    left = ap view_of law.left ∙ view-stored n v k id command a;
  },
))

-- what anybody sends
sent-law : (key : List ℕ) (n : ℕ) (v v' : views.View) (l k id : ℕ) (sent : Sent) (o : Outcome) (t : tolds.Told) (w : SessionWish) (is : wish_of (request_of 0 sent) ≡ w) → FaultTells o t
    → CallChanges key n v l k (request_of id sent) (outcome_of o) t v' w → CallLaw (session_token key) n (view_of v) l k id (body_by sent w is) o (told_of t) (view_of v')
sent-law key n v v' l k id sent o t LogsOut is fault law = logout-law key n v v' l k id (request_of id sent) o t law
sent-law key n v v' l k id sent o t AsksToken is fault law = token-law key n v v' l k id (request_of id sent) o t law
sent-law key n v v' l k id sent o t (ComesBack token) is fault law = back-law key n v v' l k id (request_of id sent) o t token token (λ m e. e) law
sent-law key n v v' l k id sent o t AsksUnkept is fault law = unkept-law key n v v' l k id (request_of id sent) o t law
sent-law key n v v' l k id sent o t AsksKept is fault law = kept-law key n v v' l k id (record { sent = sent; kept = is }) o t fault law

-- what the client asks
abbrev written_request : Setup → ℕ → Body → Request
written_request u id body = record { id = id; write = (written u body).write; offset = (written u body).offset; payload = (written u body).payload }

body-law : CanonicalIsReadAgain → (u : Setup) (n : ℕ) (v v' : views.View) (l k id wire : ℕ) (body : Body) (o : Outcome) (t : tolds.Told) → wire ≡ (request_of id u.login).id → FaultTells o t
    → CallChanges u.key n v l k (written_request u wire body) (outcome_of o) t v' (wish_of (written_request u wire body)) → CallLaw (session_token u.key) n (view_of v) l k id body o (told_of t) (view_of v')
body-law again u n v v' l k id wire Login o t is fault law =
    unkept-law u.key n v v' l k id (written_request u wire Login) o t (subst (CallChanges u.key n v l k (written_request u wire Login) (outcome_of o) t v') u.unkept law)
body-law again u n v v' l k id wire Token o t is fault law =
    token-law u.key n v v' l k id (written_request u wire Token) o t (subst (CallChanges u.key n v l k (written_request u wire Token) (outcome_of o) t v') (token-wish again wire) law)
body-law again u n v v' l k id wire (Rejoin x) o t is fault law =
    back-law u.key n v v' l k id (written_request u wire (Rejoin x)) o t x (carried x) (λ m e. carried-is x u.key m e)
    (subst (CallChanges u.key n v l k (written_request u wire (Rejoin x)) (outcome_of o) t v') (back-wish again wire (carried x) (carried-small x)) law)
body-law again u n v v' l k id wire (Does Logout) o t is fault law =
    logout-law u.key n v v' l k id (written_request u wire (Does Logout)) o t (subst (CallChanges u.key n v l k (written_request u wire (Does Logout)) (outcome_of o) t v') (logout-wish again wire) law)
body-law again u n v v' l k id wire (Does (Other command)) o t is fault law =
    kept-law u.key n v v' l k id command o t fault
    (subst (λ i. CallChanges u.key n v l k (written_request u i (Does (Other command))) (outcome_of o) t v' AsksKept) is
    (subst (CallChanges u.key n v l k (written_request u wire (Does (Other command))) (outcome_of o) t v') command.kept law))

-- ---- every ask

pub ask-law : CanonicalIsReadAgain → (u : Setup) (n : ℕ) (v v' : views.View) (l : ℕ) (h : Option ℕ) (a : Ask) (o : Outcome) (t : tolds.Told) → FaultTells o t
    → AskChanges u.key n v l h (ask_of u a) (outcome_of o) t v' → AskLaw (session_token u.key) n (view_of v) l h a o (told_of t) (view_of v')
ask-law again u n v v' l h Open o t fault (inl (told, left)) = inl (ap told_of told, ap view_of left ∙ view-opened n v)
ask-law again u n v v' l h Open o t fault (inr (a, law, bad)) = inr (read a, ap told_of law.tells, not-fine a.code a.block bad, ap view_of law.left)
ask-law again u n v v' l None (Calls id body) o t fault (told, left) = (ap told_of told, ap view_of left)
ask-law again u n v v' l (Some k) (Calls id body) o t fault law = body-law again u n v v' l k id (request_of id u.login).id body o t refl fault law
ask-law again u n v v' l None (Sends id sent) o t fault (told, left) = (ap told_of told, ap view_of left)
ask-law again u n v v' l (Some k) (Sends id sent) o t fault law = sent-law u.key n v v' l k id sent o t (wish_of (request_of 0 sent)) (λ i. wish_of (request_of 0 sent)) fault law
ask-law again u n v v' l h Pulse o t fault (left, tells) = (pulse tells, swept-or left)
  where
    pulse : (t ≡ told.Displaced) ⊎ ((drain : Option ℕ) × (t ≡ told.Live drain)) → (told_of t ≡ Live) ⊎ (told_of t ≡ Displaced)
    pulse (inl is) = inr (ap told_of is)
    pulse (inr (drain, is)) = inl (ap told_of is)

    swept-or : (v' ≡ v) ⊎ ((v' ≡ views.swept v) × ((j : ℕ) → v.holder j ≢ Some n)) → (view_of v' ≡ view_of v) ⊎ ((view_of v' ≡ view_of (views.swept v)) × ((j : ℕ) → v.holder j ≢ Some n))
    swept-or (inl is) = inl (ap view_of is)
    swept-or (inr (is, none)) = inr (ap view_of is, none)
ask-law again u n v v' l None Bye o t fault (told, left) = (ap told_of told, ap view_of left)
ask-law again u n v v' l (Some k) Bye o t fault (told, left) = (ap told_of told, ap view_of left ∙ view-ended n v l k)
ask-law again u n v v' l None Lost o t fault (told, left) = (ap told_of told, ap view_of left)
ask-law again u n v v' l (Some k) Lost o t fault (told, left) = (ap told_of told, ended-or left)
  where
    ended-or : (v' ≡ views.ended n v l k) ⊎ (v' ≡ views.detached v l) → (view_of v' ≡ ended n (view_of v) l k) ⊎ (view_of v' ≡ view_of (views.detached v l))
    ended-or (inl is) = inl (ap view_of is ∙ view-ended n v l k)
    ended-or (inr is) = inr (ap view_of is)
ask-law again u n v v' l h Drain o t fault (told, left) = (ap told_of told, ap view_of left)
