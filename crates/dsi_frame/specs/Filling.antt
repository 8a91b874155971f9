-- What one read does to a deframer and a link (this profile).
use Rattle.std.specs.Prelude.{◌≡◌, ℕ, ◌+◌, ◌≤◌, List, ◌++◌, length, take}
use Rattle.afp_outside.specs.ends.Link.{LinkState, ReadsPiece, ReadsQuiet, ReadsEnd, FailsToRead}
use Rattle.afp_outside.specs.declared.ends.link.ReadResult.{ReadResult}
use Rattle.afp_outside.specs.declared.ends.link.ReadResult.TheVariants as results
use Rattle.afp_outside.specs.declared.ends.ready_link.ReadyRead.{ReadyRead}
use Rattle.afp_outside.specs.declared.ends.ready_link.ReadyRead.TheVariants as readies
use Rattle.dsi_frame.specs.Buffered.{Buffered, buffer_length}

-- The n bytes that came stand behind the rest.
pub record Buffers (old : Buffered) (before : LinkState) (n : ℕ) (new : Buffered) (after : LinkState) : Type 0 where
  pub room : List ℕ
  pub reads : ReadsPiece before room n after
  pub rest : new.rest ≡ old.rest ++ take n room
  pub place : new.place ≡ old.place
  pub fits : length old.rest + n ≤ buffer_length

-- by what the read gave
abbrev pub ReadsMore : Buffered → LinkState → ReadResult → Buffered → LinkState → Type 0
ReadsMore old before (results.Got n) new after = Buffers old before n new after
ReadsMore old before results.Quiet new after = ReadsQuiet before after × (new ≡ old)
ReadsMore old before results.End new after = ReadsEnd before after × (new ≡ old)
ReadsMore old before results.Failed new after = FailsToRead before after × (new ≡ old)

-- no more bytes came than this
abbrev pub TakesAtMost : ReadResult → ℕ → Type 0
TakesAtMost (results.Got n) most = n ≤ most
TakesAtMost results.Quiet most = Unit {0}
TakesAtMost results.End most = Unit {0}
TakesAtMost results.Failed most = Unit {0}

-- by what a read gave that does not wait
abbrev pub ReadsMoreReady : Buffered → LinkState → ReadyRead → Buffered → LinkState → Type 0
ReadsMoreReady old before (readies.Got n) new after = Buffers old before n new after
ReadsMoreReady old before readies.NotYet new after = (after ≡ before) × (new ≡ old)
ReadsMoreReady old before readies.End new after = ReadsEnd before after × (new ≡ old)
ReadsMoreReady old before readies.Failed new after = FailsToRead before after × (new ≡ old)

abbrev pub TakesAtMostReady : ReadyRead → ℕ → Type 0
TakesAtMostReady (readies.Got n) most = n ≤ most
TakesAtMostReady readies.NotYet most = Unit {0}
TakesAtMostReady readies.End most = Unit {0}
TakesAtMostReady readies.Failed most = Unit {0}
