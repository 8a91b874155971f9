-- One read, and all reads, over whatever follows.
use Rattle.std.specs.Prelude.{◌≡◌, ℕ, Bool, true, false, List, [], ◌++◌, length, Result, Ok, Err}
use Rattle.afp_base.specs.declared.ids.ForkRef.{ForkRef}
use Rattle.client_script_commands.specs.declared.parts.asker.Stop.{Stop}
use Rattle.client_script_commands.specs.parts.Parts.{Comes, Asked, Part}
use Rattle.client_script_commands.specs.parts.Told.{Carries}
use Rattle.client_script_commands.specs.declared.get.reads.ReadPiece.{ReadPiece}
use Rattle.client_script_commands.specs.declared.get.reads.ReadPiece.TheVariants.{More, Last}
use Rattle.client_script_commands.specs.get.Reads.{closes, reads, reads_behind}

-- one read, over all bytes before it
abbrev pub ReadsPiece : {E F : Type 0} → ForkRef → ℕ → Asked F → Result ReadPiece (Stop E) → Asked F → Type 0
ReadsPiece {E} reference offset before (Ok (More piece)) after =
    (next : List ℕ → Part) (got : List ℕ) → length got ≡ offset → Carries E before (reads reference next got) after (reads_behind reference next (got ++ piece))
ReadsPiece {E} reference offset before (Ok (Last piece)) after =
    (next : List ℕ → Part) (got : List ℕ) → length got ≡ offset → Carries E before (reads reference next got) after (closes reference (next (got ++ piece)))
ReadsPiece reference offset before (Err stop) after = (next : List ℕ → Part) (got : List ℕ) → length got ≡ offset → Comes before (reads reference next got) (Err stop) after

-- the same, with the bytes behind it
abbrev pub ReadsOnce : {E F : Type 0} → ForkRef → List ℕ → Asked F → Result Bool (Stop E) → List ℕ → Asked F → Type 0
ReadsOnce {E} reference got before (Ok true) now after = (next : List ℕ → Part) → Carries E before (reads reference next got) after (reads reference next now)
ReadsOnce {E} reference got before (Ok false) now after = (next : List ℕ → Part) → Carries E before (reads reference next got) after (closes reference (next now))
ReadsOnce reference got before (Err stop) now after = (next : List ℕ → Part) → Comes before (reads reference next got) (Err stop) after

-- reads until the end
abbrev pub ReadsAll : {E F : Type 0} → ForkRef → Asked F → Result (List ℕ) (Stop E) → Asked F → Type 0
ReadsAll {E} reference before (Ok all) after = (next : List ℕ → Part) → Carries E before (reads reference next []) after (closes reference (next all))
ReadsAll reference before (Err stop) after = (next : List ℕ → Part) → Comes before (reads reference next []) (Err stop) after
