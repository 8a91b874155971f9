-- A call of a session comes to its row: what is told, the world after, and the keepers' counts (this profile).
use Rattle.afp_base.specs.Limits.{most_opens}
use Rattle.afp_base.specs.declared.bytes.OutOfMemory.{OutOfMemory}
use Rattle.afp_core_state.specs.KeeperFaults.{KeepersRise, SureStand, failed_keeper}
use Rattle.afp_core_state.specs.KeptWorld.{KeptWorld}
use Rattle.session_table.specs.Sessions.{session_of}
use Rattle.afp_calls_grammar.specs.declared.grammar.call.Call.{Call}
use Rattle.afp_serial.specs.Answer.{after_verdict, committed_by, told_verdict, Verdict, verdict_of_row, is_legal_outcome}
use Rattle.afp_serial.specs.Rows.{refusal}
use Rattle.afp_serial.specs.Sound.{has_lawful_locks, has_lawful_opens}
use Rattle.afp_serial.specs.World.{has_session, World, Session}
use Rattle.afp_serial.specs.declared.ask.Outcome.TheVariants as outcome
use Rattle.afp_serial.specs.declared.ask.Outcome.{Outcome}
use Rattle.afp_serial.specs.declared.ask.Told.{Told}
use Rattle.std.specs.Prelude.{◌≡◌, ℕ, true, None, Some, Result, Ok, Err, ◌<◌, false, length, Option}

-- no session has the next link's number
abbrev pub IsNextFree : World → Type 0
IsNextFree w = has_session w.sessions w.next_link ≡ false

-- What a turn takes as given of the world, which is sound: the next link's number is free; each open fork has a reference of its own, a session that
-- has its volume open, and a file; each lock's reference is open; and there are references for more open forks.
pub record IsReady (w : World) : Type 0 where
  pub link : IsNextFree w
  pub opens : has_lawful_opens w ≡ true
  pub locks : has_lawful_locks w ≡ true
  pub few : length w.opens < most_opens

-- An outcome that may come where this keeper or none is committed to, with what is told then, the next world, and what became of the
-- keepers' counts: a fault is one that this keeper counted, and no other count changes. Where none is committed to or settled, none settled.
pub record IsOutcomeOf (want : Told) (after : World) (index : Option ℕ) (o : Outcome) (told : Told) (old next : KeptWorld) : Type 0 where
  pub legal : is_legal_outcome index o ≡ true
  pub serial : told ≡ want
  pub world : next.world ≡ after
  pub keepers : KeepersRise (failed_keeper index o) old.faults next.faults
  pub stand : SureStand old.sure old.faults next.faults
  pub sure : next.sure ≡ old.sure
  pub settled : index ≡ None → next.settled ≡ old.settled

-- what is told where no keeper failed
abbrev pub done : Told → Told × Outcome
done told = (told, outcome.Done)

-- In both of these the world's latest moment is already the ask's.

-- a call of a session that comes to this verdict
abbrev pub RunsVerdict : KeptWorld → Session → Verdict → Told × Outcome → KeptWorld → Type 0
RunsVerdict k s v r new = IsOutcomeOf (told_verdict k.world s v r.1) (after_verdict k.world s v r.1) (committed_by k.world s v) r.1 r.0 k new

-- A call of a session comes to its row: what it is told with its outcome, and the world after, are the row's. Or there is no memory,
-- and nothing changes.
abbrev pub RunsRow : KeptWorld → ℕ → Call → Result (Told × Outcome) OutOfMemory → KeptWorld → Type 0
RunsRow k number call (Ok r) new =
    (s : Session) → session_of k.world.sessions number ≡ Some s → RunsVerdict k s (verdict_of_row call (refusal k.world s call)) r new
RunsRow k number call (Err e) new = new ≡ k
