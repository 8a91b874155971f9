-- What an ask comes to (this profile).
use Rattle.std.specs.Prelude.{◌≡◌, ◌<◌, ℕ, length, List, Bool, true, false, Option, Some, None, Result, Ok, Err, is_some}
use Rattle.afp_base.specs.Cached.{Request, cached_answer}
use Rattle.afp_base.specs.declared.bytes.OutOfMemory.{OutOfMemory}
use Rattle.afp_base.specs.declared.ids.LinkNumber.{LinkNumber}
use Rattle.afp_core_state.specs.KeptWorld.{KeptWorld}
use Rattle.afp_core_state.specs.Running.{IsOutcomeOf}
use Rattle.afp_serial.specs.Answer.{after_at, answer_at, committed_at, request}
use Rattle.afp_serial.specs.Answered.{told_of}
use Rattle.afp_base.specs.Limits.{most_opens}
use Rattle.afp_serial.specs.Sound.{IsSound}
use Rattle.afp_serial.specs.World.{Session, World, at_moment, session_at}
use Rattle.afp_serial.specs.declared.answered.Answered.{Answered}
use Rattle.afp_serial.specs.declared.ask.Ask.{Ask}
use Rattle.afp_serial.specs.declared.ask.Ask.TheVariants as ask
use Rattle.afp_serial.specs.declared.ask.Outcome.{Outcome}
use Rattle.afp_serial.specs.declared.ask.Told.{Told}

-- What an ask takes as given of the world: it is sound, and there are references for more open forks.
pub record IsReadyToAsk (w : World) : Type 0 where
  pub sound : IsSound w
  pub few : length w.opens < most_opens

-- the asks that take memory
abbrev pub takes_memory : Ask → Bool
takes_memory (ask.Open attention) = true
takes_memory (ask.Call id write offset payload) = true
takes_memory ask.Pulse = false
takes_memory ask.Bye = false
takes_memory ask.Lost = false
takes_memory ask.Drain = false

-- whether what a request is told stands already: no session has its link, or the one that has keeps an answer for it
abbrev pub stands_for : Option Session → Request → Bool
stands_for None q = true
stands_for (Some s) q = is_some (cached_answer s.cache q)

-- the calls of which that holds
abbrev pub stands_already : World → ℕ → Ask → Bool
stands_already w link (ask.Open attention) = false
stands_already w link (ask.Call id write offset payload) = stands_for (session_at w link) (request id write offset payload)
stands_already w link ask.Pulse = false
stands_already w link ask.Bye = false
stands_already w link ask.Lost = false
stands_already w link ask.Drain = false

-- There is no memory for an ask: it is one that takes some, and what it is told does not stand already.
pub record LacksMemory (w : World) (link : ℕ) (ask : Ask) : Type 0 where
  pub takes : takes_memory ask ≡ true
  pub new : stands_already w link ask ≡ false

-- what an ask came to, where the buffer of whoever asked has these bytes
abbrev pub told_in : Result (Answered × Outcome) OutOfMemory → List ℕ → Result (Told × Outcome) OutOfMemory
told_in (Ok r) out = Ok (told_of r.0 out, r.1)
told_in (Err e) out = Err e

-- a world beside its keepers, at a moment
abbrev pub kept_at : KeptWorld → ℕ → KeptWorld
kept_at k now = record k { world = at_moment k.world now }

-- An ask at the latest moment: an outcome that may come, with what is told then and the world after it; or there is no memory, and nothing changes.
abbrev pub RunsAsk : KeptWorld → ℕ → Ask → Result (Told × Outcome) OutOfMemory → KeptWorld → Type 0
RunsAsk k link ask (Ok r) new = IsOutcomeOf (answer_at k.world link ask r.1) (after_at k.world link ask r.1) (committed_at k.world link ask) r.1 r.0 k new
RunsAsk k link ask (Err e) new = LacksMemory k.world link ask × (new ≡ k)

-- An ask at its moment: an outcome that may come, or there is no memory and nothing changes.
abbrev pub RunsAskAt : KeptWorld → ℕ → LinkNumber → Ask → Result (Told × Outcome) OutOfMemory → KeptWorld → Type 0
RunsAskAt old now link ask (Ok r) new = RunsAsk (kept_at old now) link.0 ask (Ok r) new
RunsAskAt old now link ask (Err e) new = LacksMemory old.world link.0 ask × (new ≡ old)
