-- A small server for worked schedules: it has sessions, their tokens and the answers that they keep, and counts the commands that ran.
use Rattle.std.specs.Prelude.{ℕ, suc, nat_eq, bytes_eq, true, false, not, ◌&&◌, if◌then◌else◌, List, [], ◌∷◌, ◌++◌, map, filter, find, Option, Some, None, is_some}
use Rattle.afp_base.specs.Cached.{Request}
use Rattle.afp_base.specs.declared.code.Code.TheVariants.{ItemNotFound}
use Rattle.once_across_breaks.specs.once.Messages.{Answer, Body, Does, Fine, Kept, Login, Logout, Other, Refuses, Rejoin, Token, body_of, cached, request_of, store}
use Rattle.once_across_breaks.specs.once.Server.{Ask, Bye, Calls, Displaced, Drain, Live, Lost, Machine, Open, Opened, Parted, Pulse, Reply, Sends, Told, is_some_of}

pub record Session : Type 0 where
  pub number : ℕ
  pub link : Option ℕ
  pub cache : List Kept

pub record Counting : Type 0 where
  pub next : ℕ
  pub sessions : List Session
  pub ran : ℕ

-- nobody has asked it yet
abbrev pub empty : Counting
empty = record { next = 1; sessions = []; ran = 0 }

abbrev pub session_on : Counting → ℕ → Option Session
session_on w link = find (λ s. is_some_of link s.link) w.sessions

abbrev pub session_of : Counting → ℕ → Option Session
session_of w n = find (λ s. nat_eq s.number n) w.sessions

abbrev pub number_of : Option Session → Option ℕ
number_of None = None
number_of (Some s) = Some s.number

abbrev pub cache_of : Option Session → List Kept
cache_of None = []
cache_of (Some s) = s.cache

abbrev pub with_session : Counting → Session → Counting
with_session w s = record { next = w.next; sessions = map (λ x. if nat_eq x.number s.number then s else x) w.sessions; ran = w.ran }

abbrev pub without : Counting → ℕ → Counting
without w n = record { next = w.next; sessions = filter (λ x. not (nat_eq x.number n)) w.sessions; ran = w.ran }

-- a session's token is its number; a block shows it behind a count of 4 bytes
abbrev pub own_token : ℕ → List ℕ
own_token n = n ∷ []

-- what an ask is told, and the world that it leaves
pub record Step : Type 0 where
  pub told : Told
  pub world : Counting

abbrev pub step_to : Told → Counting → Step
step_to t w = record { told = t; world = w }

-- DisconnectOldSession
abbrev pub back : Counting → ℕ → Session → Option Session → Step
back w link s None = step_to (Reply (Refuses ItemNotFound []) false) w
back w link s (Some old) = step_to (Reply (Fine []) false) (with_session (without w s.number) (record { number = old.number; link = Some link; cache = old.cache }))

-- a command, where it is new, and where an answer is kept for it
abbrev pub run_once : Counting → Session → Request → Option Answer → Step
run_once w s r (Some a) = step_to (Reply a false) w
run_once w s r None =
    step_to (Reply (Fine (w.ran ∷ [])) false)
    (record { next = w.next; sessions = (with_session w (record { number = s.number; link = s.link; cache = store s.cache r (Fine (w.ran ∷ [])) })).sessions; ran = suc w.ran })

abbrev pub call_step : Counting → ℕ → Session → ℕ → Body → Step
call_step w link s id Login = step_to (Reply (Fine []) false) w
call_step w link s id Token = step_to (Reply (Fine (0 ∷ 0 ∷ 0 ∷ 1 ∷ own_token s.number)) false) w
call_step w link s id (Rejoin token) = back w link s (find (λ old. bytes_eq (own_token old.number) token && not (nat_eq old.number s.number)) w.sessions)
call_step w link s id (Does Logout) = step_to (Reply (Fine []) true) (without w s.number)
call_step w link s id (Does (Other command)) = run_once w s (request_of id command.sent) (cached s.cache (request_of id command.sent))

abbrev pub on_session : Counting → Option Session → (Session → Step) → Step
on_session w None does = step_to Displaced w
on_session w (Some s) does = does s

abbrev pub ask_step : Counting → ℕ → Ask → Step
ask_step w link Open = step_to (Opened w.next) (record { next = suc w.next; sessions = w.sessions ++ record { number = w.next; link = Some w.next; cache = [] } ∷ []; ran = w.ran })
ask_step w link (Calls id body) = on_session w (session_on w link) (λ s. call_step w link s id body)
ask_step w link (Sends id sent) = on_session w (session_on w link) (λ s. call_step w link s id (body_of sent))
ask_step w link Pulse = step_to Live w
ask_step w link Bye = on_session w (session_on w link) (λ s. step_to Parted (without w s.number))
ask_step w link Lost = on_session w (session_on w link) (λ s. step_to Parted (with_session w (record { number = s.number; link = None; cache = s.cache })))
ask_step w link Drain = step_to Parted w

abbrev pub counting : Machine Counting
counting = record {
  told = λ w e. (ask_step w e.link e.ask).told;
  after = λ w e. (ask_step w e.link e.ask).world;
  view = λ w n. record { holder = λ link. number_of (session_on w link); alive = is_some (session_of w n); cache = cache_of (session_of w n); next = w.next };
  token = own_token;
  is_legal = λ w e. true;
}
