-- What the code and the proofs go by beside Checking; no public contract cites it.
use Rattle.std.specs.Prelude.{◌≡◌, ℕ, ◌<◌, List, ◌++◌, length, option_map}
use Rattle.afp_outside.specs.ends.Sink.{SinkState}
use Rattle.afp_outside.specs.ends.Source.{SourceState, ReadWithin}
use Rattle.afp_outside.specs.ends.Whole.{Prints}
use Rattle.dsi_frame.specs.Buffered.{Buffered, buffer_length}
use Rattle.dsi_frame.specs.Deframe.{GivenOut}
use Rattle.dsi_frame.specs.Frame.{Frame}
use Rattle.dsi_frame.specs.Stream.{Stopped, IsUnfinished}
use Rattle.afptool_lib.specs.tool.Lines.{frame_lines}
use Rattle.afptool_lib.specs.declared.tool.checking.CheckEnd.{CheckEnd}
use Rattle.afptool_lib.specs.declared.tool.checking.CheckStop.{CheckStop}
use Rattle.afptool_lib.specs.declared.tool.checking.CheckStop.TheVariants as stops
use Rattle.afptool_lib.specs.declared.tool.checking.FramesEnd.{FramesEnd}
use Rattle.afptool_lib.specs.declared.tool.checking.FramesEnd.TheVariants as frames_ends
use Rattle.afptool_lib.specs.tool.Checking.{ChecksBy, ChecksPart, PrintsFramesPart}

-- The lines of the frames that were given out so far stand in the sink.
pub record PrintsFrames (start : SinkState) (bytes : List ℕ) (b : Buffered) (now : SinkState) : Type 0 where
  pub frames : List Frame
  pub given : GivenOut bytes frames b
  pub printed : Prints start (frame_lines 0 frames) now

-- A stream was read so far, and its frames were printed.
pub record HasChecked (turns : ℕ) (old : SourceState) (start : SinkState) (b : Buffered) (taken : ℕ) (new : SourceState) (now : SinkState) : Type 0 where
  pub read : List ℕ
  pub given : new.given ≡ option_map (λ given. given ++ read) old.given
  pub within : ReadWithin turns read old new
  pub ended : new.ended ≡ old.ended
  pub faults : new.faults ≡ old.faults
  pub many : taken ≡ length read
  pub prints : PrintsFrames start read b now
  pub unfinished : IsUnfinished b.rest
  pub room : length b.rest < buffer_length

-- A stream was read, and its frames were printed, but not yet how it ends.
pub record Checks (turns : ℕ) (old new : SourceState) (start now : SinkState) (end : CheckEnd) : Type 0 where
  pub read : List ℕ
  pub frames : List Frame
  pub given : new.given ≡ option_map (λ given. given ++ read) old.given
  pub by : ChecksBy turns read old new frames end
  pub printed : Prints start (frame_lines 0 frames) now

-- Whole frames at the front were printed, up to less than a frame, to a bad header, or to a write that failed.
abbrev pub PrintsTo : SinkState → List ℕ → FramesEnd → Buffered → SinkState → Type 0
PrintsTo start bytes frames_ends.More b now = PrintsFrames start bytes b now × IsUnfinished b.rest × (length b.rest < buffer_length)
PrintsTo start bytes (frames_ends.Bad bad) b now = (frames : List Frame) × Stopped bytes frames bad.at bad.reason × Prints start (frame_lines 0 frames) now
PrintsTo start bytes frames_ends.WriteFault b now = PrintsFramesPart start bytes now

abbrev pub ChecksTo : ℕ → SourceState → SourceState → SinkState → SinkState → CheckStop → Type 0
ChecksTo turns old new start now (stops.Ended end) = Checks turns old new start now end
ChecksTo turns old new start now stops.WriteFault = ChecksPart turns old new start now
