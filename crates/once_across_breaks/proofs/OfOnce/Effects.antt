-- What the law calls in effect is in effect in the history of the serial file server.
use Rattle.std.proofs.Common.{◌≡◌, ◌∙◌, refl, sym, ap, ℕ, Bool, true, false, ◌&&◌, cond, List, [], ◌∷◌, ◌++◌, Option, Some, None}
use Rattle.std.specs.Prelude.{map, is_none, length, nat_le}
use Rattle.afp_base.specs.Cached as base
use Rattle.afp_base.specs.Cached.{Request, cached_answer}
use Rattle.afp_base.specs.Limits.{payload_limit}
use Rattle.afp_calls_grammar.specs.grammar.Call.{canonical_call}
use Rattle.afp_calls_grammar.specs.grammar.Laws.{CanonicalIsReadAgain}
use Rattle.afp_calls_grammar.specs.declared.grammar.call.Call.TheVariants as calls
use Rattle.volume_spec.specs.TypedVolume.{are_bytes, is_long}
use Rattle.std.proofs.lemmas.Bool.{and_from, le-leb}
use Rattle.afp_serial.specs.declared.ask.Told as tolds
use Rattle.afp_serial.specs.Answer.{after, answer}
use Rattle.afp_serial.specs.SessionViews as views
use Rattle.afp_serial.specs.SessionViews.{AsksKept, AsksToken, AsksUnkept, ComesBack, LogsOut, SessionWish, is_number, view_at, wish_of}
use Rattle.afp_serial.specs.World.{World}
use Rattle.once_across_breaks.specs.once.Messages.{Body, Command, Does, Done, Login, Logout, Other, Rejoin, Sent, Token, body_by, cached_call, request_of, wire_id}
use Rattle.once_across_breaks.specs.once.Server.{Ask, Bye, Calls, Drain, Fault, Lost, Open, Outcome, Pulse, Ran, Sends}
use Rattle.once_across_breaks.specs.once.Once.{answer_of, effective, picked, picked_call}
use Rattle.once_across_breaks.specs.once.Serial.{Setup, ask_of, carried, entry_of, machine, newest_first, outcome_of, told_of, view_of}
use Rattle.once_across_breaks.specs.once.Effects.{Commanded, Effect, EffectsAreTheHistorys, LoggedOut, LoginsAreSetups, WrittenIsRead, answered, effect_at, effect_by, effect_of, effects, request_for, wish_for}
use Rattle.once_across_breaks.proofs.OfOnce.Caches.{cached-newest, read_option}
use Rattle.once_across_breaks.proofs.OfOnce.Wishes.{back-wish, carried-small, login-wish, logout-wish, token-wish}

pub written-is-read : CanonicalIsReadAgain → WrittenIsRead
written-is-read again u id Login = u.unkept
written-is-read again u id Token = token-wish again (request_for u id Token).id
written-is-read again u id (Rejoin token) = back-wish again (request_for u id (Rejoin token)).id (carried token) (carried-small token)
written-is-read again u id (Does Logout) = logout-wish again (request_for u id (Does Logout)).id
written-is-read again u id (Does (Other command)) = command.kept

pub logins-are : CanonicalIsReadAgain → LoginsAreSetups
logins-are again key version uam rest small small' typed short = (
  record {
    key = key;
    login = record { write = false; offset = 0; payload = canonical_call (calls.Login version uam rest); typed = and_from (is_long 0) (are_bytes (canonical_call (calls.Login version uam rest))) refl typed; sized = and_from (nat_le (length (canonical_call (calls.Login version uam rest))) payload_limit) true (le-leb (length (canonical_call (calls.Login version uam rest))) payload_limit short) refl };
    unkept = login-wish again (wire_id 0) version uam rest small small';
  },
  refl,
  refl,
  refl,
)

-- ---- one call

one-or-none : (b c : Bool) (x : Effect tolds.Told) (d : Done) → b ≡ c → answered x ≡ effect_of d → map answered (cond b (x ∷ []) []) ≡ map effect_of (cond c (d ∷ []) [])
one-or-none true c x d same is = ap (λ y. y ∷ []) is ∙ ap (λ z. map effect_of (cond z (d ∷ []) [])) same
one-or-none false c x d same is = ap (λ z. map effect_of (cond z (d ∷ []) [])) same

none-of : (o : Option base.Answer) → is_none o ≡ is_none (read_option o)
none-of None = refl
none-of (Some a) = refl

logout-same : (n : ℕ) (v : views.View) (l id : ℕ) (r : Request) (o : Outcome) (t : tolds.Told) → r.id ≡ wire_id id
    → map answered (effect_by n v l r (outcome_of o) t LogsOut) ≡ map effect_of (picked_call n (view_of v) l id (Does Logout) o (told_of t))
logout-same n v l id r Ran t is =
    one-or-none (is_number n (v.holder l) && true) (is_number n (v.holder l) && true) (LoggedOut r.id t) (record { id = id; call = Logout; answer = answer_of (told_of t) }) refl (ap (λ i. LoggedOut i (answer_of (told_of t))) is)
logout-same n v l id r Fault t is =
    one-or-none (is_number n (v.holder l) && false) (is_number n (v.holder l) && false) (LoggedOut r.id t) (record { id = id; call = Logout; answer = answer_of (told_of t) }) refl (ap (λ i. LoggedOut i (answer_of (told_of t))) is)

none-same : (v : views.View) (id : ℕ) (command : Command) → is_none (cached_answer v.cache (request_of id command.sent)) ≡ is_none (cached_call (newest_first v.cache) id (Other command))
none-same v id command = none-of (cached_answer v.cache (request_of id command.sent)) ∙ ap is_none (sym (cached-newest v.cache (request_of id command.sent)))

kept-same : (n : ℕ) (v : views.View) (l id : ℕ) (command : Command) (o : Outcome) (t : tolds.Told)
    → map answered (effect_by n v l (request_of id command.sent) (outcome_of o) t AsksKept) ≡ map effect_of (picked_call n (view_of v) l id (Does (Other command)) o (told_of t))
kept-same n v l id command Ran t =
    one-or-none (is_number n (v.holder l) && (true && is_none (cached_answer v.cache (request_of id command.sent)))) (is_number n (v.holder l) && (true && is_none (cached_call (newest_first v.cache) id (Other command))))
    (Commanded (request_of id command.sent) t) (record { id = id; call = Other command; answer = answer_of (told_of t) }) (λ i. is_number n (v.holder l) && (true && none-same v id command i)) refl
kept-same n v l id command Fault t =
    one-or-none (is_number n (v.holder l) && false) (is_number n (v.holder l) && false)
    (Commanded (request_of id command.sent) t) (record { id = id; call = Other command; answer = answer_of (told_of t) }) refl refl

-- what the client asks
body-same : (u : Setup) (n : ℕ) (v : views.View) (l id : ℕ) (body : Body) (o : Outcome) (t : tolds.Told)
    → map answered (effect_by n v l (request_for u id body) (outcome_of o) t (wish_for body)) ≡ map effect_of (picked_call n (view_of v) l id body o (told_of t))
body-same u n v l id Login o t = refl
body-same u n v l id Token o t = refl
body-same u n v l id (Rejoin token) o t = refl
body-same u n v l id (Does Logout) o t = logout-same n v l id (request_for u id (Does Logout)) o t refl
body-same u n v l id (Does (Other command)) o t = kept-same n v l id command o t

-- what anybody sends
sent-same : (n : ℕ) (v : views.View) (l id : ℕ) (sent : Sent) (o : Outcome) (t : tolds.Told) (w : SessionWish) (is : wish_of (request_of 0 sent) ≡ w)
    → map answered (effect_by n v l (request_of id sent) (outcome_of o) t w) ≡ map effect_of (picked_call n (view_of v) l id (body_by sent w is) o (told_of t))
sent-same n v l id sent o t LogsOut is = logout-same n v l id (request_of id sent) o t refl
sent-same n v l id sent o t AsksToken is = refl
sent-same n v l id sent o t (ComesBack token) is = refl
sent-same n v l id sent o t AsksUnkept is = refl
sent-same n v l id sent o t AsksKept is = kept-same n v l id (record { sent = sent; kept = is }) o t

-- ---- entries

ask-same : CanonicalIsReadAgain → (u : Setup) (n : ℕ) (v : views.View) (l : ℕ) (a : Ask) (o : Outcome) (t : tolds.Told) → map answered (effect_at n v l (ask_of u a) (outcome_of o) t) ≡ map effect_of (picked n (view_of v) l a o (told_of t))
ask-same again u n v l Open o t = refl
ask-same again u n v l (Calls id body) o t =
    ap (λ w. map answered (effect_by n v l (request_for u id body) (outcome_of o) t w)) (written-is-read again u id body) ∙ body-same u n v l id body o t
ask-same again u n v l (Sends id sent) o t = sent-same n v l id sent o t (wish_of (request_of 0 sent)) (λ i. wish_of (request_of 0 sent))
ask-same again u n v l Pulse o t = refl
ask-same again u n v l Bye o t = refl
ask-same again u n v l Lost o t = refl
ask-same again u n v l Drain o t = refl

map-append : {A B : Type 0} (f : A → B) (xs ys : List A) → map f (xs ++ ys) ≡ map f xs ++ map f ys
map-append f [] ys = refl
map-append f (x ∷ xs) ys = ap (λ zs. f x ∷ zs) (map-append f xs ys)

pub effects-are : CanonicalIsReadAgain → EffectsAreTheHistorys
effects-are again u n w [] = refl
effects-are again u n w (e ∷ es) =
    let w' : World = after w (entry_of u e) in
    map-append answered (effect_at n (view_at w n) e.link (ask_of u e.ask) (outcome_of e.outcome) (answer w (entry_of u e))) (effects n w' (map (entry_of u) es))
    ∙ (λ i. ask-same again u n (view_at w n) e.link e.ask e.outcome (answer w (entry_of u e)) i ++ effects-are again u n w' es i)
    ∙ sym (map-append effect_of (picked n (view_of (view_at w n)) e.link e.ask e.outcome (told_of (answer w (entry_of u e)))) (effective (machine u) n w' es))
