-- Whoever answers the calls of a mirror, by what it tells (this profile).
use Rattle.std.specs.Prelude.{◌≡◌, ℕ, ◌≤◌, ◌<◌, Bool, true, false, List, [], ◌∷◌, ◌++◌, Option, Some, None, Result, Ok, Err, is_some, option_map}
use Rattle.afp_base.specs.Cached.{Answer, cached_answer}
use Rattle.afp_calls_grammar.specs.grammar.Spelt.{spelt_call}
use Rattle.afp_calls_grammar.specs.declared.grammar.call.Call.{Call}
use Rattle.afp_calls_grammar.specs.declared.grammar.call.Call.TheVariants.{Logout}
use Rattle.afp_serial.specs.Answer.{after, answer, is_legal, request}
use Rattle.afp_serial.specs.KeptAnswers.{block_of, enclosed_of}
use Rattle.afp_serial.specs.Sound.{IsSound}
use Rattle.afp_serial.specs.World.{Session, World, session_at}
use Rattle.afp_serial.specs.declared.ask.Ask.TheVariants as ask
use Rattle.afp_serial.specs.declared.ask.Entry.{Entry}
use Rattle.afp_serial.specs.declared.ask.Told.TheVariants as told
use Rattle.afp_mirror_walk.specs.declared.run.port.PortFault.{PortFault}
use Rattle.afp_mirror_walk.specs.declared.run.port.PortFault.TheVariants.{Failed, Memory}

-- a call behind which the session goes on
abbrev pub IsNoLogout : Call → Type 0
IsNoLogout Logout = ⊥
IsNoLogout call = Unit {0}

-- a call, and its answer
pub record Exchange : Type 0 where
  pub call : Call
  pub answer : Answer

-- a world, and the link of a session in it
pub record Home : Type 0 where
  pub world : World
  pub link : ℕ

-- The world is sound, and the session is attached to its link and has a user.
pub record IsHome (h : Home) : Type 0 where
  pub sound : IsSound h.world
  pub session : Session
  pub attached : session_at h.world h.link ≡ Some session
  pub user : is_some session.user ≡ true

-- What a port tells: its count of faults; whether it is over, so that it is asked no more; its exchanges, where it tells them; and its world, where it tells one.
pub record PortState : Type 0 where
  pub faults : ℕ
  pub is_over : Bool
  pub exchanges : Option (List Exchange)
  pub home : Option Home

-- A call of the session is told the serial answer, none that was kept, and the world goes on by it.
pub record Serves (h : Home) (call : Call) (a : Answer) (g : Home) : Type 0 where
  pub entry : Entry
  pub id : ℕ
  pub write : Bool
  pub offset : ℕ
  pub payload : List ℕ
  pub asked : entry.ask ≡ ask.Call id write offset payload
  pub on_link : entry.link.0 ≡ h.link
  pub spelt : spelt_call (block_of (request id write offset payload)) (enclosed_of (request id write offset payload)) ≡ Some call
  pub legal : is_legal h.world entry ≡ true
  pub new : (s : Session) → session_at h.world h.link ≡ Some s → cached_answer s.cache (request id write offset payload) ≡ None
  pub tells : answer h.world entry ≡ told.Reply a.code a.block false
  pub next : g ≡ record { world = after h.world entry; link = h.link }

abbrev pub ServesWhereTold : Option Home → Call → Answer → Option Home → Type 0
ServesWhereTold None call a new = new ≡ None
ServesWhereTold (Some h) call a None = ⊥
ServesWhereTold (Some h) call a (Some g) = Serves h call a g

-- A call was answered.
pub record Answered (old : PortState) (call : Call) (a : Answer) (new : PortState) : Type 0 where
  pub faults : old.faults ≤ new.faults
  pub goes_on : new.is_over ≡ false
  pub exchanges : new.exchanges ≡ option_map (λ (xs : List Exchange). xs ++ (record { call = call; answer = a }) ∷ []) old.exchanges
  pub home : ServesWhereTold old.home call a new.home

-- It got no answer.
pub record Unanswered (old new : PortState) : Type 0 where
  pub faults : old.faults ≤ new.faults
  pub exchanges : new.exchanges ≡ old.exchanges

abbrev pub AsksPort : Call → PortState → Result Answer PortFault → PortState → Type 0
AsksPort call old (Ok a) new = Answered old call a new
AsksPort call old (Err Failed) new = Unanswered old new × (old.faults < new.faults)
AsksPort call old (Err Memory) new = Unanswered old new
