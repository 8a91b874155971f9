-- What is seen of a world for the session of one number, and what asks change of it (this profile). No ask depends on more of the sessions where only
-- its effects, its repeats and the way back to a session are looked at.
use Rattle.std.specs.Prelude.{◌≡◌, ◌≢◌, ◌⊎◌, ◌<◌, ℕ, suc, nat_eq, Bool, true, false, if◌then◌else◌, List, [], Option, None, Some, find, is_some}
use Rattle.afp_base.specs.Cached.{Request, Answer, Kept, cached_answer, with_kept}
use Rattle.afp_base.specs.declared.code.Code.TheVariants.{MiscErr, NoMemory, Ok}
use Rattle.afp_calls_grammar.specs.grammar.Spelt.{spelt_call}
use Rattle.afp_calls_grammar.specs.declared.grammar.call.Call.{Call}
use Rattle.afp_calls_grammar.specs.declared.grammar.call.Call.TheVariants.{DisconnectOldSession, GetSessionToken, Logout}
use Rattle.afp_replies.specs.Replies.{canonical_reply}
use Rattle.afp_replies.specs.declared.reply.Reply.TheVariants.{Token}
use Rattle.afp_serial.specs.declared.ask.Ask.{Ask}
use Rattle.afp_serial.specs.declared.ask.Ask.TheVariants as ask
use Rattle.afp_serial.specs.declared.ask.Entry.{Entry}
use Rattle.afp_serial.specs.declared.ask.Outcome.{Outcome}
use Rattle.afp_serial.specs.declared.ask.Outcome.TheVariants as outcome
use Rattle.afp_serial.specs.declared.ask.Told.{Told}
use Rattle.afp_serial.specs.declared.ask.Told.TheVariants as told
use Rattle.afp_serial.specs.Answer.{answer, after, is_legal, link_number, request}
use Rattle.afp_serial.specs.KeptAnswers.{block_of, enclosed_of, is_kept, is_kept_command}
use Rattle.afp_serial.specs.Sound.{IsSound}
use Rattle.afp_serial.specs.Token.{session_token}
use Rattle.afp_serial.specs.World.{session_at, World, Session}

-- the session of that number
abbrev pub session_of : List Session → ℕ → Option Session
session_of sessions number = find (λ s. nat_eq s.number number) sessions

abbrev pub number_of : Option Session → Option ℕ
number_of None = None
number_of (Some s) = Some s.number

abbrev pub cache_of : Option Session → List Kept
cache_of None = []
cache_of (Some s) = s.cache

-- The view for one number: which session has which link, by number; whether the session of that number is there, with a link or without; the answers
-- that it keeps, none where it is not there; and the next link number.
pub record View : Type 0 where
  pub holder : ℕ → Option ℕ
  pub alive : Bool
  pub cache : List Kept
  pub next : ℕ

abbrev pub view_at : World → ℕ → View
view_at w n = record { holder = λ link. number_of (session_at w link); alive = is_some (session_of w.sessions n); cache = cache_of (session_of w.sessions n); next = w.next_link }

-- what may become of the view for n

-- another value at one place
abbrev pub set : {A : Type 0} → (ℕ → A) → ℕ → A → ℕ → A
set f i x = λ j. if nat_eq j i then x else f j

-- a session is opened, on the link of its number
abbrev pub opened : ℕ → View → View
opened n v = record { holder = set v.holder v.next (Some v.next); alive = if nat_eq v.next n then true else v.alive; cache = if nat_eq v.next n then [] else v.cache; next = suc v.next }

-- the session that has the link l has none, and waits
abbrev pub detached : View → ℕ → View
detached v l = record { holder = set v.holder l None; alive = v.alive; cache = v.cache; next = v.next }

-- the session k, which has the link l, is gone
abbrev pub ended : ℕ → View → ℕ → ℕ → View
ended n v l k = record { holder = set v.holder l None; alive = if nat_eq k n then false else v.alive; cache = if nat_eq k n then [] else v.cache; next = v.next }

-- the session n is gone, which has no link
abbrev pub swept : View → View
swept v = record { holder = v.holder; alive = false; cache = []; next = v.next }

abbrev pub is_number : ℕ → Option ℕ → Bool
is_number n None = false
is_number n (Some k) = nat_eq k n

-- the session k gives its link l to the session m, and is gone; whatever link m had, it has no more
abbrev pub adopted : ℕ → View → ℕ → ℕ → ℕ → View
adopted n v l k m = record {
  holder = set (λ j. if is_number m (v.holder j) then None else v.holder j) l (Some m);
  alive = if nat_eq k n then false else v.alive;
  cache = if nat_eq k n then [] else v.cache;
  next = v.next;
}

-- the session k keeps one more answer
abbrev pub stored : ℕ → View → ℕ → Kept → View
stored n v k newest = record { holder = v.holder; alive = v.alive; cache = if nat_eq k n then with_kept v.cache newest else v.cache; next = v.next }

-- What a request asks of sessions: to log out, a token, to come back to the session of a token; nothing, of the other calls whose answers are not kept; and
-- nothing, of those whose answers are.
pub data SessionWish : Type 0 where
  LogsOut : SessionWish
  AsksToken : SessionWish
  ComesBack : (token : List ℕ) → SessionWish
  AsksUnkept : SessionWish
  AsksKept : SessionWish

abbrev pub wish_of_call : Bool → Option Call → SessionWish
wish_of_call kept (Some Logout) = LogsOut
wish_of_call kept (Some (GetSessionToken kind stamp id)) = AsksToken
wish_of_call kept (Some (DisconnectOldSession kind token)) = ComesBack token
wish_of_call kept call = if kept then AsksKept else AsksUnkept

abbrev pub wish_of : Request → SessionWish
wish_of r = wish_of_call (is_kept_command (block_of r)) (spelt_call (block_of r) (enclosed_of r))

-- What a call of the session k is told, and the view v' behind it of what was v.

-- it is told an answer, not ending, and nothing changes
pub record IsAnswered (v : View) (t : Told) (v' : View) (a : Answer) : Type 0 where
  pub tells : t ≡ told.Reply a.code a.block false
  pub left : v' ≡ v

-- an equal request was answered, and this is told again
pub record IsRepeated (n : ℕ) (v : View) (k : ℕ) (r : Request) (t : Told) (v' : View) (a : Answer) : Type 0 where
  pub kept : nat_eq k n ≡ true → cached_answer v.cache r ≡ Some a
  pub answered : IsAnswered v t v' a

-- it fails
pub record IsFault (n : ℕ) (v : View) (k : ℕ) (r : Request) (o : Outcome) (t : Told) (v' : View) : Type 0 where
  pub new : nat_eq k n ≡ true → cached_answer v.cache r ≡ None
  pub fault : o ≡ outcome.Fault
  pub answered : IsAnswered v t v' (record { code = MiscErr; block = [] })

-- it is refused or has its effect, and what it is told is kept
pub record IsKeptNow (n : ℕ) (v : View) (k : ℕ) (r : Request) (t : Told) (v' : View) (a : Answer) : Type 0 where
  pub new : nat_eq k n ≡ true → cached_answer v.cache r ≡ None
  pub keeps : is_kept r a.code ≡ true
  pub tells : t ≡ told.Reply a.code a.block false
  pub left : v' ≡ stored n v k (record { request = r; answer = a })

-- the session m of the token has the link from now on
pub record IsBack (key : List ℕ) (n : ℕ) (v : View) (l k : ℕ) (token : List ℕ) (o : Outcome) (t : Told) (v' : View) (m : ℕ) : Type 0 where
  pub is_token : token ≡ session_token key m
  pub other : m ≢ k
  pub drawn : m < v.next
  pub done : o ≡ outcome.Done
  pub tells : t ≡ told.Reply Ok [] false
  pub left : v' ≡ adopted n v l k m

pub record IsLoggedOut (n : ℕ) (v : View) (l k : ℕ) (o : Outcome) (t : Told) (v' : View) : Type 0 where
  pub done : o ≡ outcome.Done
  pub tells : t ≡ told.Reply Ok [] true
  pub left : v' ≡ ended n v l k

-- by what it asks
abbrev pub CallChanges : List ℕ → ℕ → View → ℕ → ℕ → Request → Outcome → Told → View → SessionWish → Type 0
CallChanges key n v l k r o t v' LogsOut = IsLoggedOut n v l k o t v'
CallChanges key n v l k r o t v' AsksToken = (a : Answer) × IsAnswered v t v' a × (a.code ≡ Ok → a.block ≡ canonical_reply (Token (session_token key k)))
CallChanges key n v l k r o t v' (ComesBack token) = ((a : Answer) × IsAnswered v t v' a × (a.code ≢ Ok)) ⊎ ((m : ℕ) × IsBack key n v l k token o t v' m)
CallChanges key n v l k r o t v' AsksUnkept = (a : Answer) × IsAnswered v t v' a
CallChanges key n v l k r o t v' AsksKept = ((a : Answer) × IsRepeated n v k r t v' a) ⊎ (IsFault n v k r o t v' ⊎ ((a : Answer) × IsKeptNow n v k r t v' a))

-- What an ask on the link l is told, and the view behind it, by who has that link.
abbrev pub AskChanges : List ℕ → ℕ → View → ℕ → Option ℕ → Ask → Outcome → Told → View → Type 0
AskChanges key n v l holder (ask.Open attention) o t v' = ((t ≡ told.Opened (link_number v.next)) × (v' ≡ opened n v)) ⊎ ((a : Answer) × IsAnswered v t v' a × (a.code ≢ Ok))
AskChanges key n v l None (ask.Call id write offset payload) o t v' = (t ≡ told.Displaced) × (v' ≡ v)
AskChanges key n v l (Some k) (ask.Call id write offset payload) o t v' = CallChanges key n v l k (request id write offset payload) o t v' (wish_of (request id write offset payload))
AskChanges key n v l holder ask.Pulse o t v' = ((v' ≡ v) ⊎ ((v' ≡ swept v) × ((j : ℕ) → v.holder j ≢ Some n))) × ((t ≡ told.Displaced) ⊎ ((drain : Option ℕ) × (t ≡ told.Live drain)))
AskChanges key n v l None ask.Bye o t v' = (t ≡ told.Displaced) × (v' ≡ v)
AskChanges key n v l (Some k) ask.Bye o t v' = (t ≡ told.Done) × (v' ≡ ended n v l k)
AskChanges key n v l None ask.Lost o t v' = (t ≡ told.Displaced) × (v' ≡ v)
AskChanges key n v l (Some k) ask.Lost o t v' = (t ≡ told.Done) × ((v' ≡ ended n v l k) ⊎ (v' ≡ detached v l))
AskChanges key n v l holder ask.Drain o t v' = (t ≡ told.Done) × (v' ≡ v)

-- the law: each legal entry of a sound world changes the view of each session in these ways alone
abbrev pub ChangesViews : Type 0
ChangesViews = (w : World) (e : Entry) (n : ℕ) → IsSound w → is_legal w e ≡ true
    → AskChanges w.house.token_key n (view_at w n) e.link.0 ((view_at w n).holder e.link.0) e.ask e.outcome (answer w e) (view_at (after w e) n)

-- a session that has a link is there, and its number was drawn
abbrev pub HolderIsThere : Type 0
HolderIsThere = (w : World) (n l : ℕ) → IsSound w → (view_at w n).holder l ≡ Some n → ((view_at w n).alive ≡ true) × (n < (view_at w n).next)

-- MiscErr is told of a fault alone, and NoMemory of no entry
abbrev pub FaultsAlone : Type 0
FaultsAlone = (w : World) (e : Entry) (block : List ℕ) (ends : Bool) → IsSound w → is_legal w e ≡ true → answer w e ≡ told.Reply MiscErr block ends → e.outcome ≡ outcome.Fault

abbrev pub NeverNoMemory : Type 0
NeverNoMemory = (w : World) (e : Entry) (block : List ℕ) (ends : Bool) → IsSound w → is_legal w e ≡ true → answer w e ≢ told.Reply NoMemory block ends
