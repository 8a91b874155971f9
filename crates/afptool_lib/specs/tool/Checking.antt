-- What a check of a stream of frames reads, prints and ends with (this profile).
use Rattle.std.specs.Prelude.{◌≡◌, ◌⊎◌, ℕ, zero, suc, ◌≤◌, ◌<◌, true, List, [], ◌++◌, length, option_map}
use Rattle.afp_base.specs.Counts.{CountsOn}
use Rattle.afp_outside.specs.ends.Sink.{SinkState}
use Rattle.afp_outside.specs.ends.Source.{SourceState, LastReadWithin, ReadWithin}
use Rattle.afp_outside.specs.ends.Whole.{PrintsPart}
use Rattle.dsi_frame.specs.Frame.{Frame}
use Rattle.dsi_frame.specs.Stream.{Spelled, Framed, Stopped}
use Rattle.afptool_lib.specs.tool.Lines.{frame_lines, rest_line, bad_frame_line}
use Rattle.afpd_lib.specs.server.Telling.{Tells}
use Rattle.afptool_lib.specs.declared.tool.checking.CheckEnd.{CheckEnd}
use Rattle.afptool_lib.specs.declared.tool.checking.CheckEnd.TheVariants as ends

-- The bytes that were read are these frames, and end so: in less than a frame, where the source has ended; at a bad header; or nothing
-- decides, and the read failed, or as many bytes were taken as may be. No read is made where as many were taken.
abbrev pub ChecksBy : ℕ → List ℕ → SourceState → SourceState → List Frame → CheckEnd → Type 0
ChecksBy turns read old new frames (ends.Rest n) = (rest : List ℕ) × Framed read frames rest × (n ≡ length rest) × (new.ended ≡ true) × (length read < turns) × (new.faults ≡ old.faults)
ChecksBy turns read old new frames (ends.Bad bad) = Stopped read frames bad.at bad.reason × (new.ended ≡ old.ended) × LastReadWithin turns read old new × (new.faults ≡ old.faults)
ChecksBy turns read old new frames ends.ReadFault = (rest : List ℕ) × Framed read frames rest × CountsOn 1 old.faults new.faults × (length read < turns)
ChecksBy turns read old new frames ends.Spent = (rest : List ℕ) × Framed read frames rest × (turns ≤ length read) × ReadWithin turns read old new × (new.faults ≡ old.faults)

-- what is printed behind the lines of the frames
abbrev pub end_text : CheckEnd → List ℕ
end_text (ends.Rest n) = rest_line n
end_text (ends.Bad bad) = bad_frame_line bad.at bad.reason
end_text ends.ReadFault = []
end_text ends.Spent = []

-- the status, where all was printed
abbrev pub end_status : CheckEnd → ℕ
end_status (ends.Rest zero) = 0
end_status (ends.Rest (suc n)) = 3
end_status (ends.Bad bad) = 3
end_status ends.ReadFault = 4
end_status ends.Spent = 8

-- A write failed in the lines of frames that were read.
pub record PrintsFramesPart (start : SinkState) (bytes : List ℕ) (now : SinkState) : Type 0 where
  pub frames : List Frame
  pub filled : List ℕ
  pub more : List ℕ
  pub spelled : Spelled filled frames
  pub whole : bytes ≡ filled ++ more
  pub printed : PrintsPart start (frame_lines 0 frames) now

-- A write failed in the lines of frames that were read.
pub record ChecksPart (turns : ℕ) (old new : SourceState) (start now : SinkState) : Type 0 where
  pub read : List ℕ
  pub given : new.given ≡ option_map (λ given. given ++ read) old.given
  pub within : LastReadWithin turns read old new
  pub faults : new.faults ≡ old.faults
  pub printed : PrintsFramesPart start read now

-- A whole check: all is printed, and the status says how the stream ends; or a write failed in the last line.
pub record TellsCheck (turns : ℕ) (old new : SourceState) (before after : SinkState) (status : ℕ) : Type 0 where
  pub read : List ℕ
  pub frames : List Frame
  pub end : CheckEnd
  pub given : new.given ≡ option_map (λ given. given ++ read) old.given
  pub by : ChecksBy turns read old new frames end
  pub told : Tells (frame_lines 0 frames ++ end_text end) (end_status end) before after status

-- A check is told; or a write failed in the lines of the frames; or there was no memory, and nothing was read.
abbrev pub RunsCheck : ℕ → SourceState → SourceState → SinkState → SinkState → ℕ → Type 0
RunsCheck turns old new before after status =
    TellsCheck turns old new before after status ⊎ ((status ≡ 5) × ChecksPart turns old new before after) ⊎ ((status ≡ 6) × (new ≡ old) × (after ≡ before))
