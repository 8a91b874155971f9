-- The law: whatever is done, there is a schedule of the law that leads to what is there.
use Rattle.std.specs.Prelude.{◌≡◌, ◌<◌, ℕ, List, [], ◌++◌, map, Option, Some, None}
use Rattle.afp_client.specs.declared.session.login.Login as logins
use Rattle.afp_serial.specs.Shown.{IsSoundShown, Shown}
use Rattle.afp_serial.specs.Token.{session_token}
use Rattle.afp_serial.specs.World.{World}
use Rattle.once_across_breaks.specs.once.Effects.{answered, effect_of, effects}
use Rattle.once_across_breaks.specs.once.Frames.{AllNetAllowed, Net, net_run, net_start}
use Rattle.once_across_breaks.specs.once.Messages.{Done, kept}
use Rattle.once_across_breaks.specs.once.Run.{Wait}
use Rattle.once_across_breaks.specs.once.Once.{IsOutstanding}
use Rattle.once_across_breaks.specs.once.Run.{Event}
use Rattle.once_across_breaks.specs.once.Serial.{IsSoundUnder, Setup, machine}
use Rattle.once_across_breaks.specs.once.Server.{numbers_end}
use Rattle.once_across_breaks.specs.once.Tokens.{IsDrawn}
use Rattle.once_across_breaks_code.specs.server.Asked.{world_of}
use Rattle.once_across_breaks_code.specs.client.Requests.{LogsIn}
use Rattle.once_across_breaks_code.specs.run.Doings.{Doing, IsAlone, Runs, RunsAlone}
use Rattle.once_across_breaks_code.specs.run.Mirrors.{AreAsked, AreTold, Mirrors, waiting_call}
use Rattle.once_across_breaks_code.specs.run.Premises.{RunKeeps, RunKeepsAlone, no_notes}
use Rattle.once_across_breaks_code.specs.run.Things.{Things, begun_things}

-- Of the session n the calls in effect are the requests of the results, each once, in order, each told its result; and at most one more, which is the one that waits.
pub record AreOnce (u : Setup) (n : ℕ) (start : World) (t : Things) (net : Net World) : Type 0 where
  pub more : List Done
  pub in_effect : map answered (effects n start t.shown.history) ≡ map effect_of (kept net.client.results ++ more)
  pub at_most : IsOutstanding more net.client.wait

-- These events lead to what is there; and where they meet the law's premises for a session whose token the client holds, its calls are in effect once and in order.
pub record IsSchedule (u : Setup) (start : World) (t : Things) (events : List Event) : Type 0 where
  pub mirrors : Mirrors u t (net_run (machine u) (net_start start) events)
  pub once : (n : ℕ) → n < numbers_end → AllNetAllowed (machine u) n (net_start start) events → (net_run (machine u) (net_start start) events).client.token ≡ Some (session_token u.key n)
      → AreOnce u n start t (net_run (machine u) (net_start start) events)

abbrev pub RunsAreSchedules : Type 0
RunsAreSchedules =
    (u : Setup) (login : logins.Login) (block : List ℕ) (shown : Shown) (doings : List Doing) (last : Things)
    → LogsIn u login
    → IsSoundShown shown
    → shown.history ≡ []
    → IsSoundUnder u.key shown.start
    → Runs (begun_things block login shown) doings last
    → (events : List Event) × IsSchedule u shown.start last events

-- so it is over a teller that nobody else asks, where frames can carry what others ask
abbrev pub SoleRunsAreSchedules : Type 0
SoleRunsAreSchedules =
    (u : Setup) (login : logins.Login) (block : List ℕ) (shown : Shown) (doings : List Doing) (last : Things)
    → LogsIn u login
    → IsAlone shown
    → shown.history ≡ []
    → IsSoundUnder u.key shown.start
    → RunsAlone (begun_things block login shown) doings last
    → (events : List Event) × IsSchedule u shown.start last events

-- ---- in terms of the run alone

-- The calls asked are those of the results and the one that waits, and the results are those told. In effect on the session n, in the history that the teller
-- shows, are the requests of the results, each once, in order, each told its result, but for those told MiscErr or NoMemory; and at most one more, which is the one that waits.
pub record TakesEffectOnce (u : Setup) (n : ℕ) (t : Things) : Type 0 where
  pub results : List Done
  pub wait : Option Wait
  pub calls : AreAsked u (map (λ (d : Done). d.call) results ++ waiting_call wait) t.calls
  pub told : AreTold results t.results
  pub more : List Done
  pub in_effect : map answered (effects n t.shown.start t.shown.history) ≡ map effect_of (kept results ++ more)
  pub at_most : IsOutstanding more wait

-- So it is for each run that keeps the premises, and the session whose token the client holds.
abbrev pub RunsTakeEffectOnce : Type 0
RunsTakeEffectOnce =
    (u : Setup) (login : logins.Login) (block : List ℕ) (shown : Shown) (doings : List Doing) (last : Things) (n : ℕ)
    → LogsIn u login
    → IsSoundShown shown
    → shown.history ≡ []
    → IsSoundUnder u.key shown.start
    → (runs : Runs (begun_things block login shown) doings last)
    → RunKeeps u.key n no_notes (begun_things block login shown) doings last runs
    → n < numbers_end
    → last.client.state.token ≡ Some (session_token u.key n)
    → TakesEffectOnce u n last

abbrev pub SoleRunsTakeEffectOnce : Type 0
SoleRunsTakeEffectOnce =
    (u : Setup) (login : logins.Login) (block : List ℕ) (shown : Shown) (doings : List Doing) (last : Things) (n : ℕ)
    → LogsIn u login
    → IsAlone shown
    → shown.history ≡ []
    → IsSoundUnder u.key shown.start
    → (runs : RunsAlone (begun_things block login shown) doings last)
    → RunKeepsAlone u.key n no_notes (begun_things block login shown) doings last runs
    → n < numbers_end
    → last.client.state.token ≡ Some (session_token u.key n)
    → TakesEffectOnce u n last

-- A client without a token has no results, and a token that it holds is that of a session whose number was drawn.
pub record HoldsToken (u : Setup) (t : Things) : Type 0 where
  pub none : t.client.state.token ≡ None → t.results ≡ []
  pub drawn : (token : List ℕ) → t.client.state.token ≡ Some token → IsDrawn u (world_of t.shown) token

abbrev pub RunsHoldTokens : Type 0
RunsHoldTokens =
    (u : Setup) (login : logins.Login) (block : List ℕ) (shown : Shown) (doings : List Doing) (last : Things)
    → LogsIn u login
    → IsSoundShown shown
    → shown.history ≡ []
    → IsSoundUnder u.key shown.start
    → Runs (begun_things block login shown) doings last
    → HoldsToken u last

abbrev pub SoleRunsHoldTokens : Type 0
SoleRunsHoldTokens =
    (u : Setup) (login : logins.Login) (block : List ℕ) (shown : Shown) (doings : List Doing) (last : Things)
    → LogsIn u login
    → IsAlone shown
    → shown.history ≡ []
    → IsSoundUnder u.key shown.start
    → RunsAlone (begun_things block login shown) doings last
    → HoldsToken u last
