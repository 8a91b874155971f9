-- What a deframer holds, and what it says of it.
use Rattle.std.specs.Prelude.{◌≡◌, ℕ, List, ◌++◌, length}
use Rattle.dsi_frame.specs.declared.frame.Head.{Head}
use Rattle.dsi_frame.specs.declared.frame.Head.TheVariants as heads
use Rattle.dsi_frame.specs.declared.stream.StreamEnd.{StreamEnd}
use Rattle.dsi_frame.specs.declared.stream.StreamEnd.TheVariants as ends
use Rattle.dsi_frame.specs.Frame.{Frame, IsBadHeader, header_of}
use Rattle.dsi_frame.specs.Stream.{Begins, IsUnfinished, Spelled, Framed, Stopped}
use Rattle.dsi_frame.specs.Buffered.{Buffered}

-- what stands at the front of the rest: the header of a whole frame, a bad header with its place in the
-- stream, or less than a frame
abbrev pub IsHead : Buffered → Head → Type 0
IsHead b (heads.Whole h) = (f : Frame) × Begins b.rest f × (h ≡ header_of f)
IsHead b heads.NotYet = IsUnfinished b.rest
IsHead b (heads.Bad bad) = (bad.at ≡ b.place) × IsBadHeader b.rest bad.reason

-- the stream is these frames and ends so: in a rest of so many bytes that is less than a frame, or at a
-- bad header
abbrev pub IsStream : List ℕ → List Frame → StreamEnd → Type 0
IsStream bytes frames (ends.Rest n) = (rest : List ℕ) × Framed bytes frames rest × (n ≡ length rest)
IsStream bytes frames (ends.Bad bad) = Stopped bytes frames bad.at bad.reason

-- of the stream so far, these frames were given out, and the rest is held
pub record GivenOut (bytes : List ℕ) (frames : List Frame) (b : Buffered) : Type 0 where
  pub filled : List ℕ
  pub spelled : Spelled filled frames
  pub whole : bytes ≡ filled ++ b.rest
  pub place : b.place ≡ length filled
