-- The calls in effect on a session, in a history of the serial file server; and that these are what the law speaks of.
use Rattle.std.specs.Prelude.{◌≡◌, ◌<◌, ◌≤◌, ℕ, length, Bool, true, false, ◌&&◌, if◌then◌else◌, List, [], ◌∷◌, ◌++◌, map, None, is_none}
use Rattle.afp_base.specs.Cached.{Request, cached_answer}
use Rattle.afp_base.specs.Limits.{payload_limit}
use Rattle.afp_serial.specs.declared.ask.Ask as serial
use Rattle.afp_serial.specs.declared.ask.Ask.TheVariants as ask
use Rattle.afp_serial.specs.declared.ask.Entry as entries
use Rattle.afp_serial.specs.declared.ask.Outcome as outcomes
use Rattle.afp_serial.specs.declared.ask.Outcome.TheVariants as outcome
use Rattle.afp_serial.specs.declared.ask.Told as tolds
use Rattle.afp_calls_grammar.specs.grammar.Call.{canonical_call}
use Rattle.afp_calls_grammar.specs.declared.grammar.call.Call.TheVariants as calls
use Rattle.volume_spec.specs.TypedVolume.{are_bytes}
use Rattle.volume_spec.specs.VolumeState.{VolumeState}
use Rattle.afp_serial.specs.Answer.{after, answer, is_legal, request}
use Rattle.afp_serial.specs.Household.{Household}
use Rattle.afp_serial.specs.HouseFault.{house_fault}
use Rattle.afp_serial.specs.Ranges.{is_moment, is_typed_house}
use Rattle.afp_serial.specs.SessionViews as views
use Rattle.afp_serial.specs.SessionViews.{AsksKept, AsksToken, AsksUnkept, ComesBack, LogsOut, SessionWish, is_number, view_at, wish_of}
use Rattle.afp_serial.specs.Sound.{ServesVolumes}
use Rattle.afp_serial.specs.Token.{session_token}
use Rattle.afp_serial.specs.World.{World, start_world}
use Rattle.once_across_breaks.specs.once.Messages.{Answer, Body, Call, Does, Done, Login, Logout, Other, Rejoin, Token, request_of, wire_id}
use Rattle.once_across_breaks.specs.once.Server.{Entry}
use Rattle.once_across_breaks.specs.once.Once.{answer_of, effective}
use Rattle.once_across_breaks.specs.once.Serial.{IsSoundUnder, Setup, can_carry, carried, entry_of, machine, told_of, written}

-- a call in effect, with what it was told: a Logout, under its id, or a command
pub data Effect (T : Type 0) : Type 0 where
  LoggedOut : (id : ℕ) (told : T) → Effect T
  Commanded : (request : Request) (told : T) → Effect T

abbrev pub is_done : outcomes.Outcome → Bool
is_done outcome.Done = true
is_done outcome.Fault = false

-- By what a request asks: a Logout of the session, and a command that was not answered from what it keeps, where no fault came.
abbrev pub effect_by : ℕ → views.View → ℕ → Request → outcomes.Outcome → tolds.Told → SessionWish → List (Effect tolds.Told)
effect_by n v link r o t LogsOut = if is_number n (v.holder link) && is_done o then LoggedOut r.id t ∷ [] else []
effect_by n v link r o t AsksToken = []
effect_by n v link r o t (ComesBack token) = []
effect_by n v link r o t AsksUnkept = []
effect_by n v link r o t AsksKept = if is_number n (v.holder link) && (is_done o && is_none (cached_answer v.cache r)) then Commanded r t ∷ [] else []

abbrev pub effect_at : ℕ → views.View → ℕ → serial.Ask → outcomes.Outcome → tolds.Told → List (Effect tolds.Told)
effect_at n v link (ask.Open attention) o t = []
effect_at n v link (ask.Call id write offset payload) o t = effect_by n v link (request id write offset payload) o t (wish_of (request id write offset payload))
effect_at n v link ask.Pulse o t = []
effect_at n v link ask.Bye o t = []
effect_at n v link ask.Lost o t = []
effect_at n v link ask.Drain o t = []

-- the calls in effect on the session n, in entries from a world on
abbrev pub effects : ℕ → World → List entries.Entry → List (Effect tolds.Told)
effects n w [] = []
effects n w (e ∷ es) = effect_at n (view_at w n) e.link.0 e.ask e.outcome (answer w e) ++ effects n (after w e) es

-- with what its reply says
abbrev pub answered : Effect tolds.Told → Effect Answer
answered (LoggedOut id t) = LoggedOut id (answer_of (told_of t))
answered (Commanded r t) = Commanded r (answer_of (told_of t))

-- a call of the client, with what it was told
abbrev pub effect_of_call : ℕ → Call → Answer → Effect Answer
effect_of_call id Logout a = LoggedOut (wire_id id) a
effect_of_call id (Other command) a = Commanded (request_of id command.sent) a

abbrev pub effect_of : Done → Effect Answer
effect_of d = effect_of_call d.id d.call d.answer

-- the request that the client writes
abbrev pub request_for : Setup → ℕ → Body → Request
request_for u id body = request (wire_id id) (written u body).write (written u body).offset (written u body).payload

-- what the law calls in effect is in effect in the history
abbrev pub EffectsAreTheHistorys : Type 0
EffectsAreTheHistorys = (u : Setup) (n : ℕ) (w : World) (h : List Entry) → map answered (effects n w (map (entry_of u) h)) ≡ map effect_of (effective (machine u) n w h)

-- ---- what the client writes is read as what it asks

abbrev pub wish_for : Body → SessionWish
wish_for Login = AsksUnkept
wish_for Token = AsksToken
wish_for (Rejoin token) = ComesBack (carried token)
wish_for (Does Logout) = LogsOut
wish_for (Does (Other command)) = AsksKept

abbrev pub WrittenIsRead : Type 0
WrittenIsRead = (u : Setup) (id : ℕ) (body : Body) → wish_of (request_for u id body) ≡ wish_for body

-- and the token of any session can be carried
abbrev pub TokensAreCarried : Type 0
TokensAreCarried = (key : List ℕ) (number : ℕ) → can_carry (session_token key number) ≡ true

-- each login whose words fit their counts, and which a frame can carry, is one that a client may have
abbrev pub LoginsAreSetups : Type 0
LoginsAreSetups =
    (key version uam rest : List ℕ)
    → length version < 256
    → length uam < 256
    → are_bytes (canonical_call (calls.Login version uam rest)) ≡ true
    → length (canonical_call (calls.Login version uam rest)) ≤ payload_limit
    → (u : Setup) × (u.key ≡ key) × (u.login.write ≡ false) × (u.login.payload ≡ canonical_call (calls.Login version uam rest))

-- ---- sound worlds under a key

abbrev pub StartsUnderItsKey : Type 0
StartsUnderItsKey =
    (house : Household) (now : ℕ) (volumes : List VolumeState)
    → house_fault house ≡ None
    → is_typed_house house ≡ true
    → is_moment now ≡ true
    → ServesVolumes house volumes
    → IsSoundUnder house.token_key (start_world house now volumes)

abbrev pub StaysUnderItsKey : Type 0
StaysUnderItsKey = (key : List ℕ) (w : World) (e : entries.Entry) → IsSoundUnder key w → is_legal w e ≡ true → IsSoundUnder key (after w e)
