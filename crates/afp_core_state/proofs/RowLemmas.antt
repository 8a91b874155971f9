-- Rows of calls.
use Rattle.std.proofs.Common.{◌≡◌, sym, subst, ℕ, Some, None}
use Rattle.std.specs.Prelude.{Result, Ok as with_ok}
use Rattle.afp_base.specs.declared.bytes.OutOfMemory.{OutOfMemory}
use Rattle.afp_base.specs.declared.code.Code.{Code}
use Rattle.afp_calls_grammar.specs.declared.grammar.call.Call.{Call}
use Rattle.afp_serial.specs.declared.ask.Outcome.{Outcome}
use Rattle.afp_serial.specs.declared.ask.Told.{Told}
use Rattle.afp_serial.specs.Answer.{refusal_reply, effect_reply, verdict_of_row}
use Rattle.afp_serial.specs.World.{plain, World, Session}
use Rattle.afp_serial.specs.Rows.{refusal, effect}
use Rattle.afp_core_state.specs.KeptWorld.{KeptWorld}
use Rattle.afp_core_state.specs.Running.{done, RunsRow, RunsVerdict}
use Rattle.afp_core_state.proofs.KeeperLemmas.{outcome-done, outcome-same}

-- what a row tells, and the world that it leaves
abbrev pub IsRowOf : KeptWorld → Session → Call → Told → KeptWorld → Type 0
IsRowOf k s call told next = RunsVerdict k s (verdict_of_row call (refusal k.world s call)) (done told) next

-- a call that is refused
pub is_refused : (old new : KeptWorld) (s : Session) (call : Call) (code : Code) (told : Told) → refusal old.world s call ≡ Some (plain code)
    → told ≡ refusal_reply code → new ≡ old → IsRowOf old s call told new
is_refused old new s call code told refused tells same =
    rw refused (outcome-same old new _ _ told tells same)

-- a call that has its effect
pub has_effect : (old new : KeptWorld) (s : Session) (call : Call) (told : Told) (next : World) → refusal old.world s call ≡ None
    → told ≡ effect_reply call (effect old.world s call) → new ≡ record old { world = next } → next ≡ (effect old.world s call).world
    → IsRowOf old s call told new
has_effect old new s call told next passes tells is becomes = rw passes (outcome-done old new _ _ next _ told tells is becomes)

-- a call by its name
pub row-as : (old new : KeptWorld) (number : ℕ) (call of : Call) (told : Told) → call ≡ of → RunsRow old number of (with_ok (done told)) new → RunsRow old number call (with_ok (done told)) new
row-as old new number call of told is runs = subst (λ (a : Call). RunsRow old number a (with_ok (done told)) new) (sym is) runs

-- the same, whatever it came to
pub call-as : (old new : KeptWorld) (number : ℕ) (call of : Call) (result : Result (Told × Outcome) OutOfMemory) → call ≡ of → RunsRow old number of result new → RunsRow old number call result new
call-as old new number call of result is runs = subst (λ (a : Call). RunsRow old number a result new) (sym is) runs
