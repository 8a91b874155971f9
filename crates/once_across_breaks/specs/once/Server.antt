-- The server, as far as sessions, links and kept answers go. Any world will do that meets these laws (this profile).
use Rattle.std.specs.Prelude.{◌≡◌, ◌≢◌, ◌⊎◌, ℕ, suc, ◌<◌, ◌≤◌, Bool, true, false, if◌then◌else◌, List, [], Option, Some, None, nat_eq}
use Rattle.once_across_breaks.specs.once.Messages.{Logout, Other, Command, Sent, request_of, Body, Login, Token, Rejoin, Does, body_of, token_in, Answer, Fine, MiscErr, is_miss, is_fine, Kept, cached_call, store}
use Rattle.afp_serial.specs.SessionViews as views
use Rattle.once_across_breaks.specs.once.Fits.{FitsAnswer, fits_token}

-- How many link numbers there are. A session's number is that of its first link.
abbrev pub numbers_end : ℕ
numbers_end = 18446744073709551616

-- What is asked on a link. A request of the client is what it asks, with its id; a request of anybody is what it carries, with its id.
pub data Ask : Type 0 where
  Open : Ask
  Calls : (id : ℕ) (body : Body) → Ask
  Sends : (id : ℕ) (sent : Sent) → Ask
  Pulse : Ask
  Bye : Ask
  Lost : Ask
  Drain : Ask

pub data Told : Type 0 where
  Opened : (link : ℕ) → Told
  Reply : (answer : Answer) (ends : Bool) → Told
  Live : Told
  Parted : Told
  Displaced : Told

pub data Outcome : Type 0 where
  Ran : Outcome
  Fault : Outcome

pub record Entry : Type 0 where
  pub link : ℕ
  pub moment : ℕ
  pub ask : Ask
  pub outcome : Outcome

abbrev pub entry : ℕ → ℕ → Ask → Outcome → Entry
entry link moment ask outcome = record { link = link; moment = moment; ask = ask; outcome = outcome }

-- What is seen of the world for the session of one number: which session has which link; whether that session is there, attached or
-- detached; what it keeps (nothing where it is not there); and the next link number.
pub record View : Type 0 where
  pub holder : ℕ → Option ℕ
  pub alive : Bool
  pub cache : List Kept
  pub next : ℕ

abbrev pub set : {A : Type 0} → (ℕ → A) → ℕ → A → ℕ → A
set f i x = views.set f i x

abbrev pub is_some_of : ℕ → Option ℕ → Bool
is_some_of n o = views.is_number n o

-- what becomes of the view for n

-- a session is opened on the link of its number
abbrev pub opened : ℕ → View → View
opened n v = record { holder = set v.holder v.next (Some v.next); alive = if nat_eq v.next n then true else v.alive; cache = if nat_eq v.next n then [] else v.cache; next = suc v.next }

-- the session k loses its link l, and stays or is gone
abbrev pub detached : View → ℕ → View
detached v l = record { holder = set v.holder l None; alive = v.alive; cache = v.cache; next = v.next }

abbrev pub ended : ℕ → View → ℕ → ℕ → View
ended n v l k = record { holder = set v.holder l None; alive = if nat_eq k n then false else v.alive; cache = if nat_eq k n then [] else v.cache; next = v.next }

-- the session n is gone while it has no link
abbrev pub swept : View → View
swept v = record { holder = v.holder; alive = false; cache = []; next = v.next }

-- the session k on link l gives it to the session m, and is gone; m's former link is cut
abbrev pub adopted : ℕ → View → ℕ → ℕ → ℕ → View
adopted n v l k m =
    record {
      holder = set (λ j. if is_some_of m (v.holder j) then None else v.holder j) l (Some m);
      alive = if nat_eq k n then false else v.alive;
      cache = if nat_eq k n then [] else v.cache;
      next = v.next;
    }

-- the session k keeps an answer
abbrev pub storing : ℕ → View → ℕ → ℕ → Command → Answer → View
storing n v k id command a = record { holder = v.holder; alive = v.alive; cache = if nat_eq k n then store v.cache (request_of id command.sent) a else v.cache; next = v.next }

-- The laws of one ask of the session k on link l: what it is told, and the view of n behind it.

-- a call, by what it asks
pub record Answers (v : View) (t : Told) (v' : View) (a : Answer) : Type 0 where
  pub told : t ≡ Reply a false
  pub left : v' ≡ v

-- a call that has its effect or is refused: it is told what it is, and this is kept
pub record Runs (n : ℕ) (v : View) (k id : ℕ) (command : Command) (o : Outcome) (t : Told) (v' : View) (a : Answer) : Type 0 where
  pub none_kept : k ≡ n → cached_call v.cache id (Other command) ≡ None
  pub ran : o ≡ Ran
  pub no_miss : is_miss a ≡ false
  pub told : t ≡ Reply a false
  pub left : v' ≡ storing n v k id command a

pub record Faults (n : ℕ) (v : View) (k id : ℕ) (command : Command) (o : Outcome) (t : Told) (v' : View) : Type 0 where
  pub none_kept : k ≡ n → cached_call v.cache id (Other command) ≡ None
  pub fault : o ≡ Fault
  pub told : t ≡ Reply MiscErr false
  pub left : v' ≡ v

pub record Repeats (n : ℕ) (v : View) (k id : ℕ) (command : Command) (t : Told) (v' : View) (a : Answer) : Type 0 where
  pub is_kept : k ≡ n → cached_call v.cache id (Other command) ≡ Some a
  pub told : t ≡ Reply a false
  pub left : v' ≡ v

pub record Adopts (token : ℕ → List ℕ) (n : ℕ) (v : View) (l k : ℕ) (x : List ℕ) (t : Told) (v' : View) (m : ℕ) (b : List ℕ) : Type 0 where
  pub is_token : x ≡ token m
  pub other : m ≢ k
  pub drawn : m < v.next
  pub told : t ≡ Reply (Fine b) false
  pub left : v' ≡ adopted n v l k m

abbrev pub CallLaw : (ℕ → List ℕ) → ℕ → View → ℕ → ℕ → ℕ → Body → Outcome → Told → View → Type 0
CallLaw token n v l k id Login o t v' = (a : Answer) × Answers v t v' a
CallLaw token n v l k id Token o t v' = (a : Answer) × Answers v t v' a × ((b : List ℕ) → a ≡ Fine b → token_in b ≡ Some (token k))
CallLaw token n v l k id (Rejoin x) o t v' = ((a : Answer) × Answers v t v' a × (is_fine a ≡ false)) ⊎ ((m : ℕ) × (b : List ℕ) × Adopts token n v l k x t v' m b)
CallLaw token n v l k id (Does Logout) o t v' = (b : List ℕ) × (t ≡ Reply (Fine b) true) × (v' ≡ ended n v l k) × (o ≡ Ran)
CallLaw token n v l k id (Does (Other command)) o t v' =
    ((a : Answer) × Repeats n v k id command t v' a) ⊎ (Faults n v k id command o t v' ⊎ ((a : Answer) × Runs n v k id command o t v' a))

-- an ask, by what it asks and who has its link
abbrev pub AskLaw : (ℕ → List ℕ) → ℕ → View → ℕ → Option ℕ → Ask → Outcome → Told → View → Type 0
AskLaw token n v l h Open o t v' = ((t ≡ Opened v.next) × (v' ≡ opened n v)) ⊎ ((a : Answer) × (t ≡ Reply a false) × (is_fine a ≡ false) × (v' ≡ v))
AskLaw token n v l None (Calls id body) o t v' = (t ≡ Displaced) × (v' ≡ v)
AskLaw token n v l (Some k) (Calls id body) o t v' = CallLaw token n v l k id body o t v'
AskLaw token n v l None (Sends id sent) o t v' = (t ≡ Displaced) × (v' ≡ v)
AskLaw token n v l (Some k) (Sends id sent) o t v' = CallLaw token n v l k id (body_of sent) o t v'
AskLaw token n v l h Pulse o t v' = ((t ≡ Live) ⊎ (t ≡ Displaced)) × ((v' ≡ v) ⊎ ((v' ≡ swept v) × ((j : ℕ) → v.holder j ≢ Some n)))
AskLaw token n v l None Bye o t v' = (t ≡ Displaced) × (v' ≡ v)
AskLaw token n v l (Some k) Bye o t v' = (t ≡ Parted) × (v' ≡ ended n v l k)
AskLaw token n v l None Lost o t v' = (t ≡ Displaced) × (v' ≡ v)
AskLaw token n v l (Some k) Lost o t v' = (t ≡ Parted) × ((v' ≡ ended n v l k) ⊎ (v' ≡ detached v l))
AskLaw token n v l h Drain o t v' = (t ≡ Parted) × (v' ≡ v)

-- A server over worlds of one type: what it tells, and what each entry leaves.
pub record Machine (W : Type 0) : Type 0 where
  pub told : W → Entry → Told
  pub after : W → Entry → W
  pub view : W → ℕ → View
  pub token : ℕ → List ℕ
  pub is_legal : W → Entry → Bool

-- one that meets the laws
pub record Server (W : Type 0) (Sound : W → Type 0) : Type 0 where
  pub machine : Machine W
  pub open machine use *
  pub tokens_differ : (m n : ℕ) → m < numbers_end → n < numbers_end → token m ≡ token n → m ≡ n
  pub ran_is_legal : (w : W) (link moment : ℕ) (ask : Ask) → link < numbers_end → is_legal w (entry link moment ask Ran) ≡ true
  pub drawn_begins : (w : W) (n : ℕ) → Sound w → 1 ≤ (view w n).next
  pub drawn_ends : (w : W) (n : ℕ) → Sound w → (view w n).next ≤ numbers_end
  pub stays_sound : (w : W) (e : Entry) → Sound w → is_legal w e ≡ true → Sound (after w e)
  pub held_is_alive : (w : W) (n l : ℕ) → Sound w → (view w n).holder l ≡ Some n → (view w n).alive ≡ true
  pub held_is_drawn : (w : W) (n l : ℕ) → Sound w → (view w n).holder l ≡ Some n → n < (view w n).next
  pub tokens_fit : (n : ℕ) → fits_token (token n) ≡ true
  pub tells_fit : (w : W) (e : Entry) (a : Answer) (ends : Bool) → Sound w → is_legal w e ≡ true → told w e ≡ Reply a ends → FitsAnswer a
  pub answers : (w : W) (n : ℕ) (e : Entry) → Sound w → is_legal w e ≡ true → AskLaw token n (view w n) e.link ((view w n).holder e.link) e.ask e.outcome (told w e) (view (after w e) n)
