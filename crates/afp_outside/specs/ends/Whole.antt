-- What it is to write a whole piece to a link, or a whole text to a sink, in as many writes as that takes (this profile).
use Rattle.std.specs.Prelude.{◌≡◌, ◌<◌, ℕ, Bool, true, false, List, ◌++◌, length, option_map}
use Rattle.afp_base.specs.Counts.{CountsOn}
use Rattle.afp_outside.specs.ends.Link.{LinkState}
use Rattle.afp_outside.specs.ends.Sink.{SinkState}

-- These bytes were written to a link, and so many writes failed; all else stays.
pub record Sends (old : LinkState) (wrote : List ℕ) (failed : ℕ) (new : LinkState) : Type 0 where
  pub events : new.events ≡ old.events
  pub coming : new.coming ≡ old.coming
  pub written : new.written ≡ option_map (λ before. before ++ wrote) old.written
  pub ended : new.ended ≡ old.ended
  pub read_faults : new.read_faults ≡ old.read_faults
  pub write_faults : CountsOn failed old.write_faults new.write_faults
  pub quiets : new.quiets ≡ old.quiets
  pub now : new.now ≡ old.now
  pub last_read : new.last_read ≡ old.last_read

-- One write failed, behind a first part of the piece, and its fault is counted.
pub record SendsPart (old : LinkState) (offered : List ℕ) (new : LinkState) : Type 0 where
  pub part : List ℕ
  pub lost : List ℕ
  pub some_lost : 0 < length lost
  pub cut : part ++ lost ≡ offered
  pub sends : Sends old part 1 new

-- by the answer: whether all was written to the link
abbrev pub SendsAll : LinkState → List ℕ → Bool → LinkState → Type 0
SendsAll old offered true new = Sends old offered 0 new
SendsAll old offered false new = SendsPart old offered new

-- The whole text was printed to a sink, and no write failed.
pub record Prints (old : SinkState) (text : List ℕ) (new : SinkState) : Type 0 where
  pub written : new.written ≡ option_map (λ before. before ++ text) old.written
  pub faults : new.faults ≡ old.faults

-- A write failed behind a first part of the text: once, and its fault is counted.
pub record PrintsPart (old : SinkState) (text : List ℕ) (new : SinkState) : Type 0 where
  pub part : List ℕ
  pub lost : List ℕ
  pub some_lost : 0 < length lost
  pub cut : part ++ lost ≡ text
  pub written : new.written ≡ option_map (λ before. before ++ part) old.written
  pub fault : CountsOn 1 old.faults new.faults

-- by the answer: whether all was printed to the sink
abbrev pub PrintsAll : SinkState → List ℕ → Bool → SinkState → Type 0
PrintsAll old text true new = Prints old text new
PrintsAll old text false new = PrintsPart old text new
