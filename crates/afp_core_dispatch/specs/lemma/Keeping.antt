-- A call that comes to its answer, which is kept (this profile). In these the world's latest moment is already the ask's.
use Rattle.std.specs.Prelude.{◌≡◌, ℕ, false, List, Option, Some, None, Result, Ok, Err}
use Rattle.afp_base.specs.Cached.{Request, Answer}
use Rattle.afp_base.specs.declared.bytes.OutOfMemory.{OutOfMemory}
use Rattle.afp_serial.specs.Answer.{after_verdict, committed_by, newly_kept, told_verdict, verdict_of_block}
use Rattle.afp_serial.specs.Answered.{told_of}
use Rattle.afp_serial.specs.KeptAnswers as serial
use Rattle.afp_serial.specs.KeptAnswers.{block_of}
use Rattle.afp_serial.specs.World.{Session}
use Rattle.afp_serial.specs.declared.answered.Answered.{Answered}
use Rattle.afp_serial.specs.declared.ask.Outcome.{Outcome}
use Rattle.afp_serial.specs.declared.ask.Told.{Told}
use Rattle.afp_serial.specs.declared.ask.Told.TheVariants as told
use Rattle.afp_core_state.specs.KeptWorld.{KeptWorld}
use Rattle.afp_core_state.specs.Running.{IsOutcomeOf, RunsVerdict}
use Rattle.afp_core_state.specs.lemma.KeptWorld.{with_sessions}
use Rattle.session_table.specs.Sessions.{keeping, session_of}

-- there is a session of that number
pub record IsThere (k : KeptWorld) (n : ℕ) : Type 0 where
  pub session : Session
  pub numbered : session_of k.world.sessions n ≡ Some session

-- what was put to be told again, or none
abbrev pub again_in : Option Answered → List ℕ → Option Told
again_in (Some a) out = Some (told_of a out)
again_in None out = None

-- an answer that is kept is told again, and else none
abbrev pub IsToldAgain : Option Answer → Option Told → Type 0
IsToldAgain (Some a) (Some t) = t ≡ told.Reply a.code a.block false
IsToldAgain (Some a) None = ⊥
IsToldAgain None (Some t) = ⊥
IsToldAgain None None = Unit {0}

-- an answer is kept, where there is one
abbrev pub keeps : KeptWorld → ℕ → Option Answer → Request → KeptWorld
keeps k n None q = k
keeps k n (Some a) q = with_sessions k (keeping k.world.sessions n q a)

-- A request of the session of that number comes to its verdict, where no answer is kept for it: what it is told with its outcome, and the world
-- after, where the answer is not kept yet. Or there is no memory, and nothing changes.
abbrev pub RunsBlock : KeptWorld → ℕ → Request → Result (Told × Outcome) OutOfMemory → KeptWorld → Type 0
RunsBlock k n q (Ok r) new = (s : Session) → session_of k.world.sessions n ≡ Some s → RunsVerdict k s (verdict_of_block k.world s q (block_of q)) r new
RunsBlock k n q (Err e) new = new ≡ k

-- the same, where the answer is kept
abbrev pub RunsKept : KeptWorld → ℕ → Request → Result (Told × Outcome) OutOfMemory → KeptWorld → Type 0
RunsKept k n q (Ok r) new =
    (s : Session) → session_of k.world.sessions n ≡ Some s
    → IsOutcomeOf (told_verdict k.world s (verdict_of_block k.world s q (block_of q)) r.1)
    (serial.keeping (after_verdict k.world s (verdict_of_block k.world s q (block_of q)) r.1) s.number q
    (newly_kept q (verdict_of_block k.world s q (block_of q)) (told_verdict k.world s (verdict_of_block k.world s q (block_of q)) r.1)))
    (committed_by k.world s (verdict_of_block k.world s q (block_of q))) r.1 r.0 k new
RunsKept k n q (Err e) new = new ≡ k
