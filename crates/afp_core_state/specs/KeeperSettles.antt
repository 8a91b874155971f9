-- How many settles of the volumes' keepers went well, in the order of the volumes, and a call that has one settle (this profile).
use Rattle.std.specs.Prelude.{◌≡◌, ◌+◌, ℕ, zero, suc, List, [], ◌∷◌, Option, None, Some, Result, Ok, Err}
use Rattle.afp_base.specs.declared.bytes.OutOfMemory.{OutOfMemory}
use Rattle.afp_calls_grammar.specs.declared.grammar.call.Call.{Call}
use Rattle.afp_core_state.specs.KeptWorld.{KeptWorld}
use Rattle.session_table.specs.Sessions.{session_of}
use Rattle.afp_serial.specs.Answer.{committed_by, verdict_of_row}
use Rattle.afp_serial.specs.Rows.{refusal}
use Rattle.afp_serial.specs.World.{Session}
use Rattle.afp_serial.specs.declared.ask.Outcome.{Outcome}
use Rattle.afp_serial.specs.declared.ask.Outcome.TheVariants.{Done, Fault}
use Rattle.afp_serial.specs.declared.ask.Told.{Told}

-- the index of the keeper that settled: the one that a call has settle, where it met no fault
abbrev pub settled_keeper : Option ℕ → Outcome → Option ℕ
settled_keeper index Done = index
settled_keeper index Fault = None

-- One settle more of the keeper at an index went well, and none of the others.
abbrev pub KeepersSettle : Option ℕ → List ℕ → List ℕ → Type 0
KeepersSettle None olds news = news ≡ olds
KeepersSettle (Some index) [] news = ⊥
KeepersSettle (Some index) (a ∷ olds) [] = ⊥
KeepersSettle (Some zero) (a ∷ olds) (b ∷ news) = (b ≡ a + 1) × (news ≡ olds)
KeepersSettle (Some (suc index)) (a ∷ olds) (b ∷ news) = (b ≡ a) × KeepersSettle (Some index) olds news

-- A call of a session that has a keeper settle, as its row says: where it had its effect, that keeper settled, once; and no other did.
abbrev pub SettlesRow : KeptWorld → ℕ → Call → Result (Told × Outcome) OutOfMemory → KeptWorld → Type 0
SettlesRow k number call (Ok r) new =
    (s : Session) → session_of k.world.sessions number ≡ Some s
    → KeepersSettle (settled_keeper (committed_by k.world s (verdict_of_row call (refusal k.world s call))) r.1) k.settled new.settled
SettlesRow k number call (Err e) new = new.settled ≡ k.settled
