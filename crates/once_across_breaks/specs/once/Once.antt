-- Once and in order.
use Rattle.std.specs.Prelude.{◌≡◌, ◌≢◌, ℕ, ◌<◌, Bool, true, false, ◌&&◌, if◌then◌else◌, List, [], ◌∷◌, ◌++◌, Option, Some, None, is_none}
use Rattle.once_across_breaks.specs.once.Messages.{Body, Login, Token, Rejoin, Does, body_of, Answer, NoMemory, Done, kept, cached_call}
use Rattle.once_across_breaks.specs.once.Server.{Ask, Open, Calls, Sends, numbers_end, Pulse, Bye, Lost, Drain, Told, Opened, Reply, Live, Parted, Displaced, Outcome, Ran, Fault, Entry, View, is_some_of, Machine}
use Rattle.once_across_breaks.specs.once.Run.{Opens, Asks, Slot, Idle, Coming, Going, Wait, Run, Event, Commands, ToServer, ToClient, Quiet, Loses, Drains, Ends, Breaks, Others, step, run_of, start}

-- The effective calls of the session n in a history: its calls that are told done, were not answered from what it keeps, and are none of
-- Login, GetSessionToken and DisconnectOldSession; each with what it was told.

abbrev pub answer_of : Told → Answer
answer_of (Reply a ends) = a
answer_of (Opened link) = NoMemory
answer_of Live = NoMemory
answer_of Parted = NoMemory
answer_of Displaced = NoMemory

abbrev pub is_ran : Outcome → Bool
is_ran Ran = true
is_ran Fault = false

abbrev pub picked_call : ℕ → View → ℕ → ℕ → Body → Outcome → Told → List Done
picked_call n v link id Login o t = []
picked_call n v link id Token o t = []
picked_call n v link id (Rejoin token) o t = []
picked_call n v link id (Does call) o t =
    if is_some_of n (v.holder link) && (is_ran o && is_none (cached_call v.cache id call)) then record { id = id; call = call; answer = answer_of t } ∷ [] else []

abbrev pub picked : ℕ → View → ℕ → Ask → Outcome → Told → List Done
picked n v link Open o t = []
picked n v link (Calls id body) o t = picked_call n v link id body o t
picked n v link (Sends id sent) o t = picked_call n v link id (body_of sent) o t
picked n v link Pulse o t = []
picked n v link Bye o t = []
picked n v link Lost o t = []
picked n v link Drain o t = []

abbrev pub effective : {W : Type 0} → Machine W → ℕ → W → List Entry → List Done
effective s n w [] = []
effective s n w (e ∷ es) = picked n (s.view w n) e.link e.ask e.outcome (s.told w e) ++ effective s n (s.after w e) es

-- The premises, for the session n, at each event of a schedule:
-- no entry of others names a link of the client or carries the token of n;
-- no command that was written before a break is told want of memory;
-- fewer than 1,900 commands in a row are answered MiscErr or -108.

abbrev pub carries_body : List ℕ → Body → Type 0
carries_body token Login = ⊥
carries_body token Token = ⊥
carries_body token (Rejoin x) = x ≡ token
carries_body token (Does call) = ⊥

abbrev pub carries : List ℕ → Ask → Type 0
carries token Open = ⊥
carries token (Calls id body) = carries_body token body
carries token (Sends id sent) = carries_body token (body_of sent)
carries token Pulse = ⊥
carries token Bye = ⊥
carries token Lost = ⊥
carries token Drain = ⊥

abbrev pub is_again : Slot → Bool
is_again Idle = false
is_again (Coming Opens) = false
is_again (Coming (Asks id body again)) = again
is_again (Going r a) = false

pub record OthersKeepOut {W : Type 0} (s : Machine W) (n : ℕ) (run : Run W) (e : Entry) : Type 0 where
  pub legal : s.is_legal run.world e ≡ true
  pub apart : (i : ℕ) → (run.links i).number ≢ Some e.link
  pub no_token : carries (s.token n) e.ask → ⊥

abbrev pub Allowed : {W : Type 0} → Machine W → ℕ → Run W → Event → Type 0
Allowed s n run (Others e) = OthersKeepOut s n run e
Allowed s n run (ToServer i moment wish) = wish.memory ≡ true → (run.links i).ended ≡ false → is_again (run.links i).slot ≡ false
Allowed s n run (Commands call) = Unit {0}
Allowed s n run ToClient = Unit {0}
Allowed s n run (Quiet i moment wish) = Unit {0}
Allowed s n run (Loses i moment wish) = Unit {0}
Allowed s n run (Drains i moment wish) = Unit {0}
Allowed s n run (Ends i) = Unit {0}
Allowed s n run Breaks = Unit {0}

abbrev pub AllAllowed : {W : Type 0} → Machine W → ℕ → Run W → List Event → Type 0
AllAllowed s n run [] = Unit {0}
AllAllowed s n run (e ∷ es) = Allowed s n run e × ((step s run e).client.row < 1900) × AllAllowed s n (step s run e) es

-- What is in effect beyond the results is the command without a result, or nothing.
abbrev pub IsOutstanding : List Done → Option Wait → Type 0
IsOutstanding [] wait = Unit {0}
IsOutstanding (d ∷ []) None = ⊥
IsOutstanding (d ∷ []) (Some w) = (d.id ≡ w.id) × (d.call ≡ w.call)
IsOutstanding (d ∷ e ∷ ds) wait = ⊥

pub record OnceInOrder {W : Type 0} (s : Machine W) (n : ℕ) (w : W) (run : Run W) : Type 0 where
  pub more : List Done
  pub effects : effective s n w run.history ≡ kept run.client.results ++ more
  pub at_most : IsOutstanding more run.client.wait

-- For each schedule, and the session whose token the client holds behind it.
abbrev pub CommandsOnce : {W : Type 0} → (W → Type 0) → Machine W → Type 0
CommandsOnce {W} Sound s =
    (w : W) (n : ℕ) (events : List Event)
    → Sound w
    → n < numbers_end
    → AllAllowed s n (start w) events
    → (run_of s (start w) events).client.token ≡ Some (s.token n)
    → OnceInOrder s n w (run_of s (start w) events)

-- a client that holds no token has no results
abbrev pub NoneWithoutToken : {W : Type 0} → (W → Type 0) → Machine W → Type 0
NoneWithoutToken {W} Sound s =
    (w : W) (n : ℕ) (events : List Event)
    → Sound w
    → n < numbers_end
    → AllAllowed s n (start w) events
    → (run_of s (start w) events).client.token ≡ None
    → (run_of s (start w) events).client.results ≡ []
