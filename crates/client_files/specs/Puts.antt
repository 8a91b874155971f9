-- A fork's writes, and the bytes of a source that they carry (AFP Reference, "FPWriteExt"; this profile).
use Rattle.std.specs.Prelude.{◌≡◌, ◌≢◌, ◌==◌, ℕ, ◌+◌, ◌≤◌, ◌<◌, Bool, true, false, List, [], ◌∷◌, ◌++◌, length}
use Rattle.afp_base.specs.declared.code.Code.TheVariants as code
use Rattle.afp_base.specs.declared.ids.ForkRef.{ForkRef}
use Rattle.afp_outside.specs.ends.Source.{SourceState}
use Rattle.afp_replies.specs.declared.reply.Reply.{Reply}
use Rattle.afp_replies.specs.declared.reply.Reply.TheVariants.{EndExt}
use Rattle.client_script_commands.specs.parts.Parts.{Asked, Exchange, with_more, with_unanswered}
use Rattle.client_script_commands.specs.declared.parts.asker.Answer.{Answer}
use Rattle.client_files.specs.Requests.{carried, end_of_places, write_at}
use Rattle.client_files.specs.Sources.{Gives, IsAtEnd, Loses}
use Rattle.client_files.specs.declared.put.Put.{Put}
use Rattle.client_files.specs.declared.put.Put.TheVariants as puts
use Rattle.client_files.specs.declared.put.Step.{Step}
use Rattle.client_files.specs.declared.put.Step.TheVariants.{Moved, Last, Ends}

-- it tells that the write ended at this place
abbrev pub is_end : ℕ → Reply → Bool
is_end end (EndExt told) = told == end
is_end end reply = false

-- the bytes that the writes of exchanges carry, in order
abbrev pub written_bytes : List Exchange → List ℕ
written_bytes [] = []
written_bytes (x ∷ xs) = carried x.call ++ written_bytes xs

-- This piece was written at this place, and told Ok and the place behind it.
pub record Writes (reference : ForkRef) (most at : ℕ) (piece : List ℕ) (x : Exchange) : Type 0 where
  pub call : x.call ≡ write_at reference at piece
  pub some : 0 < length piece
  pub fits : length piece ≤ most
  pub ok : x.answer.code ≡ code.Ok
  pub told : is_end (at + length piece) x.answer.reply ≡ true

-- writes of at most so many bytes, each from where the one before it ended
abbrev pub WritesOn : ForkRef → ℕ → ℕ → List Exchange → Type 0
WritesOn reference most at [] = Unit {0}
WritesOn reference most at (x ∷ xs) = Writes reference most at (carried x.call) x × WritesOn reference most (at + length (carried x.call)) xs

-- Writes were told Ok, and carried the bytes that the source gave, in order, and no others.
pub record Moves {F : Type 0} (reference : ForkRef) (most from : ℕ) (before : Asked F) (old : SourceState) (at : ℕ) (after : Asked F) (new : SourceState) : Type 0 where
  pub exchanges : List Exchange
  pub log : after ≡ with_more before exchanges
  pub writes : WritesOn reference most from exchanges
  pub place : at ≡ from + length (written_bytes exchanges)
  pub gives : Gives old (written_bytes exchanges) new

-- what an answer to a write of so many bytes comes to, which is to end here
abbrev pub TakesWrite : {E : Type 0} → Answer → ℕ → ℕ → Step E → Type 0
TakesWrite answer size end (Moved n) = (answer.code ≡ code.Ok) × (is_end end answer.reply ≡ true) × (n ≡ size)
TakesWrite answer size end (Ends (puts.Refused c)) = (answer.code ≡ c) × (c ≢ code.Ok)
TakesWrite answer size end (Ends puts.BadReply) = (answer.code ≡ code.Ok) × (is_end end answer.reply ≡ false)
TakesWrite answer size end step = ⊥

-- A write was told an answer, which comes to this.
pub record WriteTold {E F : Type 0} (reference : ForkRef) (at : ℕ) (piece : List ℕ) (before : Asked F) (step : Step E) (after : Asked F) : Type 0 where
  pub answer : Answer
  pub log : after ≡ with_more before ((record { call = write_at reference at piece; answer = answer }) ∷ [])
  pub places : at + length piece < end_of_places
  pub takes : TakesWrite answer (length piece) (at + length piece) step

-- one write, which may get no answer; a piece that would pass the last place is not written
abbrev pub PutsPiece : {E F : Type 0} → ForkRef → ℕ → List ℕ → Asked F → Step E → Asked F → Type 0
PutsPiece reference at piece before (Ends (puts.Ended end)) after = (after ≡ with_unanswered before (write_at reference at piece)) × (at + length piece < end_of_places)
PutsPiece reference at piece before (Ends puts.TooLong) after = (after ≡ before) × (end_of_places ≤ at + length piece)
PutsPiece reference at piece before step after = WriteTold reference at piece before step after

-- The source gave a piece, and this became of it.
pub record PutsNext {E F : Type 0} (reference : ForkRef) (most at : ℕ) (before : Asked F) (old : SourceState) (step : Step E) (after : Asked F) (new : SourceState) : Type 0 where
  pub piece : List ℕ
  pub some : 0 < length piece
  pub fits : length piece ≤ most
  pub gives : Gives old piece new
  pub puts : PutsPiece reference at piece before step after

-- one piece; at the source's end, and behind its fault, nothing is written
abbrev pub PutsOnce : {E F : Type 0} → ForkRef → ℕ → ℕ → Asked F → SourceState → Step E → Asked F → SourceState → Type 0
PutsOnce reference most at before old Last after new = (after ≡ before) × Gives old [] new × IsAtEnd new
PutsOnce reference most at before old (Ends puts.SourceFault) after new = (after ≡ before) × Loses most old new
PutsOnce reference most at before old step after new = PutsNext reference most at before old step after new

-- how the last piece ends them all: the source has no more; or as the write ended
abbrev pub LastWrite : {E F : Type 0} → ForkRef → ℕ → ℕ → Asked F → SourceState → Put E → Asked F → SourceState → Type 0
LastWrite {E} reference most at before old (puts.Done end) after new = (end ≡ at) × PutsOnce {E = E} reference most at before old Last after new
LastWrite reference most at before old end after new = PutsOnce reference most at before old (Ends end) after new

-- A source was written on from this place: writes that were told Ok, and how they ended.
pub record PutsFork {E F : Type 0} (reference : ForkRef) (most from : ℕ) (before : Asked F) (old : SourceState) (result : Put E) (after : Asked F) (new : SourceState) : Type 0 where
  pub at : ℕ
  pub mid : Asked F
  pub between : SourceState
  pub moves : Moves reference most from before old at mid between
  pub last : LastWrite reference most at mid between result after new
