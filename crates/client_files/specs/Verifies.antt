-- A fork's reads, compared with what a source gives (AFP Reference, "FPReadExt"; this profile).
use Rattle.std.specs.Prelude.{◌≡◌, ◌≢◌, ◌⊎◌, ℕ, ◌+◌, ◌≤◌, ◌<◌, Bool, true, false, List, [], ◌∷◌, ◌++◌, length}
use Rattle.afp_base.specs.declared.code.Code.{Code}
use Rattle.afp_base.specs.declared.code.Code.TheVariants as code
use Rattle.afp_base.specs.declared.ids.ForkRef.{ForkRef}
use Rattle.afp_outside.specs.ends.Source.{SourceState}
use Rattle.client_script_commands.specs.commands.Replies.{piece_in}
use Rattle.client_script_commands.specs.parts.Parts.{Asked, Exchange, with_more, with_unanswered}
use Rattle.client_script_commands.specs.declared.parts.asker.Answer.{Answer}
use Rattle.client_files.specs.Requests.{end_of_places, read_at}
use Rattle.client_files.specs.Sources.{Gives, GivesThenFails, IsAtEnd}
use Rattle.client_files.specs.Gets.{ReadsOn, told_bytes}
use Rattle.client_files.specs.declared.verify.Compared.{Compared}
use Rattle.client_files.specs.declared.verify.Compared.TheVariants as compared
use Rattle.client_files.specs.declared.verify.Verified.{Verified}
use Rattle.client_files.specs.declared.verify.Verified.TheVariants as verified
use Rattle.client_files.specs.declared.verify.Step.{Step}
use Rattle.client_files.specs.declared.verify.Step.TheVariants.{Moved, Ends}

-- Reads were told Ok, and the source gave the same bytes as they told.
pub record Agrees {F : Type 0} (reference : ForkRef) (count from : ℕ) (before : Asked F) (old : SourceState) (at : ℕ) (after : Asked F) (new : SourceState) : Type 0 where
  pub exchanges : List Exchange
  pub log : after ≡ with_more before exchanges
  pub reads : ReadsOn reference count from exchanges
  pub place : at ≡ from + length (told_bytes exchanges)
  pub gives : Gives old (told_bytes exchanges) new

-- What is left of a piece and what the source gave for it part at once: by their first bytes, or since the source has no more.
abbrev pub Parts : List ℕ → List ℕ → SourceState → Type 0
Parts [] more source = ⊥
Parts (x ∷ left) [] source = IsAtEnd source
Parts (x ∷ left) (y ∷ more) source = x ≢ y

-- what is left of two pieces parts at once by its first bytes, or nothing is left of the one that was given
abbrev pub PartsIn : List ℕ → List ℕ → Type 0
PartsIn left [] = Unit {0}
PartsIn [] (y ∷ more) = ⊥
PartsIn (x ∷ left) (y ∷ more) = x ≢ y

-- Two pieces have so many bytes in common, at their front, and then part, or the one that was given is all of them.
pub record Shares (given piece : List ℕ) (n : ℕ) : Type 0 where
  pub same : List ℕ
  pub left : List ℕ
  pub more : List ℕ
  pub whole : given ≡ same ++ more
  pub split : piece ≡ same ++ left
  pub size : n ≡ length same
  pub parts : PartsIn left more

-- A piece and what the source gave for it have so many bytes in common, and then part.
pub record PartsAt (piece : List ℕ) (old : SourceState) (n : ℕ) (new : SourceState) : Type 0 where
  pub same : List ℕ
  pub left : List ℕ
  pub more : List ℕ
  pub split : piece ≡ same ++ left
  pub size : n ≡ length same
  pub gives : Gives old (same ++ more) new
  pub parts : Parts left more new

-- The source gave a whole piece, the fork's last, and more behind it.
pub record GoesOn (piece : List ℕ) (old : SourceState) (n : ℕ) (new : SourceState) : Type 0 where
  pub more : List ℕ
  pub some : 0 < length more
  pub size : n ≡ length piece
  pub gives : Gives old (piece ++ more) new

-- A read of the source failed behind a first part of a piece.
pub record FailsWithin (piece : List ℕ) (old new : SourceState) : Type 0 where
  pub same : List ℕ
  pub left : List ℕ
  pub split : piece ≡ same ++ left
  pub fails : GivesThenFails old same new

-- comparing a piece with the next bytes of a source
abbrev pub Compares : List ℕ → SourceState → Compared → SourceState → Type 0
Compares piece old compared.Same new = Gives old piece new
Compares piece old (compared.Differs n) new = PartsAt piece old n new
Compares piece old compared.Failed new = FailsWithin piece old new

-- a source must end where the fork did
abbrev pub EndsAt : {E : Type 0} → ℕ → SourceState → Verified E → SourceState → Type 0
EndsAt at old (verified.Equal size) new = (size ≡ at) × Gives old [] new × IsAtEnd new
EndsAt at old (verified.Differs place) new = (place ≡ at) × ((more : List ℕ) × (0 < length more) × Gives old more new)
EndsAt at old verified.SourceFault new = GivesThenFails old [] new
EndsAt at old end new = ⊥

-- where a piece from this place differs: within it, or the source goes on behind the fork's last
abbrev pub DiffersAt : Bool → List ℕ → SourceState → ℕ → SourceState → Type 0
DiffersAt true piece old n new = PartsAt piece old n new ⊎ GoesOn piece old n new
DiffersAt false piece old n new = PartsAt piece old n new

-- what a piece from this place comes to, which is the fork's last, or not
abbrev pub TakesPiece : {E : Type 0} → Bool → List ℕ → ℕ → SourceState → Step E → SourceState → Type 0
TakesPiece is_last piece at old (Moved n) new = (is_last ≡ false) × (n ≡ length piece) × (at + n < end_of_places) × Gives old piece new
TakesPiece is_last piece at old (Ends (verified.Equal size)) new = (is_last ≡ true) × (size ≡ at + length piece) × Gives old piece new × IsAtEnd new
TakesPiece is_last piece at old (Ends (verified.Differs place)) new = (n : ℕ) × (place ≡ at + n) × DiffersAt is_last piece old n new
TakesPiece is_last piece at old (Ends verified.SourceFault) new = FailsWithin piece old new
TakesPiece is_last piece at old (Ends verified.BadReply) new = (end_of_places ≤ at + length piece) × (new ≡ old)
TakesPiece is_last piece at old step new = ⊥

-- what an answer to a read from this place comes to, by its code
abbrev pub TakesCode : {E : Type 0} → Code → List ℕ → ℕ → SourceState → Step E → SourceState → Type 0
TakesCode code.Ok piece at old step new = TakesPiece false piece at old step new
TakesCode code.EOFErr piece at old step new = TakesPiece true piece at old step new
TakesCode c piece at old (Ends (verified.Refused refusal)) new = (refusal ≡ c) × (new ≡ old)
TakesCode c piece at old step new = ⊥

abbrev pub TakesRead : {E : Type 0} → Answer → ℕ → SourceState → Step E → SourceState → Type 0
TakesRead answer at old step new = TakesCode answer.code (piece_in answer.reply) at old step new

-- A read was told an answer, which comes to this.
pub record ReadTold {E F : Type 0} (reference : ForkRef) (count at : ℕ) (before : Asked F) (old : SourceState) (step : Step E) (after : Asked F) (new : SourceState) : Type 0 where
  pub answer : Answer
  pub log : after ≡ with_more before ((record { call = read_at reference at count; answer = answer }) ∷ [])
  pub takes : TakesRead answer at old step new

-- one read; where it gets no answer, the source is not read
abbrev pub VerifiesOnce : {E F : Type 0} → ForkRef → ℕ → ℕ → Asked F → SourceState → Step E → Asked F → SourceState → Type 0
VerifiesOnce reference count at before old (Ends (verified.Ended end)) after new = (after ≡ with_unanswered before (read_at reference at count)) × (new ≡ old)
VerifiesOnce reference count at before old step after new = ReadTold reference count at before old step after new

-- A fork was read on from this place, and compared: reads that were told the source's bytes, and the last one.
pub record VerifiesFork {E F : Type 0} (reference : ForkRef) (count from : ℕ) (before : Asked F) (old : SourceState) (result : Verified E) (after : Asked F) (new : SourceState) : Type 0 where
  pub at : ℕ
  pub mid : Asked F
  pub between : SourceState
  pub agrees : Agrees reference count from before old at mid between
  pub last : VerifiesOnce reference count at mid between (Ends result) after new
