-- A fork's reads, and what a sink is given of them (AFP Reference, "FPReadExt"; this profile).
use Rattle.std.specs.Prelude.{◌≡◌, ◌≢◌, ◌⊎◌, ℕ, ◌+◌, ◌≤◌, List, [], ◌∷◌, ◌++◌, length}
use Rattle.afp_base.specs.declared.code.Code.TheVariants as code
use Rattle.afp_base.specs.declared.ids.ForkRef.{ForkRef}
use Rattle.afp_outside.specs.ends.Sink.{SinkState}
use Rattle.afp_outside.specs.ends.Whole.{Prints, PrintsPart}
use Rattle.client_script_commands.specs.commands.Replies.{piece_in}
use Rattle.client_script_commands.specs.parts.Parts.{Asked, Exchange, with_more, with_unanswered}
use Rattle.client_script_commands.specs.declared.parts.asker.Answer.{Answer}
use Rattle.client_files.specs.Requests.{end_of_places, read_at}
use Rattle.client_files.specs.declared.get.Got.{Got}
use Rattle.client_files.specs.declared.get.Got.TheVariants as gots
use Rattle.client_files.specs.declared.get.Step.{Step}
use Rattle.client_files.specs.declared.get.Step.TheVariants.{Moved, Last, Ends}

-- the bytes that the replies of exchanges told, in order
abbrev pub told_bytes : List Exchange → List ℕ
told_bytes [] = []
told_bytes (x ∷ xs) = piece_in x.answer.reply ++ told_bytes xs

-- reads of so many bytes, each from where the one before it ended, each told Ok
abbrev pub ReadsOn : ForkRef → ℕ → ℕ → List Exchange → Type 0
ReadsOn reference count at [] = Unit {0}
ReadsOn reference count at (x ∷ xs) =
    (x.call ≡ read_at reference at count) × (x.answer.code ≡ code.Ok) × ReadsOn reference count (at + length (piece_in x.answer.reply)) xs

-- Reads were told Ok, and the sink has the bytes that they told, in order, and no others.
pub record Moves {F : Type 0} (reference : ForkRef) (count from : ℕ) (before : Asked F) (old : SinkState) (at : ℕ) (after : Asked F) (new : SinkState) : Type 0 where
  pub exchanges : List Exchange
  pub log : after ≡ with_more before exchanges
  pub reads : ReadsOn reference count from exchanges
  pub place : at ≡ from + length (told_bytes exchanges)
  pub sink : Prints old (told_bytes exchanges) new

-- what an answer to a read comes to
abbrev pub TakesRead : {E : Type 0} → Answer → SinkState → Step E → SinkState → Type 0
TakesRead answer old (Moved n) new = (answer.code ≡ code.Ok) × (n ≡ length (piece_in answer.reply)) × Prints old (piece_in answer.reply) new
TakesRead answer old (Last n) new = (answer.code ≡ code.EOFErr) × (n ≡ length (piece_in answer.reply)) × Prints old (piece_in answer.reply) new
TakesRead answer old (Ends (gots.Refused c)) new = (answer.code ≡ c) × (c ≢ code.Ok) × (c ≢ code.EOFErr) × (new ≡ old)
TakesRead answer old (Ends gots.SinkFault) new = ((answer.code ≡ code.Ok) ⊎ (answer.code ≡ code.EOFErr)) × PrintsPart old (piece_in answer.reply) new
TakesRead answer old (Ends end) new = ⊥

-- A read was told an answer, which comes to this.
pub record ReadTold {E F : Type 0} (reference : ForkRef) (count at : ℕ) (before : Asked F) (old : SinkState) (step : Step E) (after : Asked F) (new : SinkState) : Type 0 where
  pub answer : Answer
  pub log : after ≡ with_more before ((record { call = read_at reference at count; answer = answer }) ∷ [])
  pub takes : TakesRead answer old step new

-- one read; where it gets no answer, nothing is written
abbrev pub GetsOnce : {E F : Type 0} → ForkRef → ℕ → ℕ → Asked F → SinkState → Step E → Asked F → SinkState → Type 0
GetsOnce reference count at before old (Ends (gots.Ended end)) after new = (after ≡ with_unanswered before (read_at reference at count)) × (new ≡ old)
GetsOnce reference count at before old step after new = ReadTold reference count at before old step after new

-- how the last read ends them all: the end was read, and this is the fork's length; a reply passes the last place; or as the read ended
abbrev pub LastRead : {E F : Type 0} → ForkRef → ℕ → ℕ → Asked F → SinkState → Got E → Asked F → SinkState → Type 0
LastRead {E} reference count at before old (gots.Done size) after new = (n : ℕ) × (size ≡ at + n) × ReadTold {E = E} reference count at before old (Last n) after new
LastRead {E} reference count at before old gots.BadReply after new =
    (n : ℕ) × (end_of_places ≤ at + n) × (ReadTold {E = E} reference count at before old (Moved n) after new ⊎ ReadTold {E = E} reference count at before old (Last n) after new)
LastRead reference count at before old end after new = GetsOnce reference count at before old (Ends end) after new

-- A fork was read on from this place: reads that were told Ok, and the last one.
pub record GetsFork {E F : Type 0} (reference : ForkRef) (count from : ℕ) (before : Asked F) (old : SinkState) (result : Got E) (after : Asked F) (new : SinkState) : Type 0 where
  pub at : ℕ
  pub mid : Asked F
  pub between : SinkState
  pub moves : Moves reference count from before old at mid between
  pub last : LastRead reference count at mid between result after new
