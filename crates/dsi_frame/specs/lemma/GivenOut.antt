-- What a deframer has given out, by where it stopped.
use Rattle.std.specs.Prelude.{ℕ, List, Option, None, Some}
use Rattle.dsi_frame.specs.declared.frame.BadFrame.{BadFrame}
use Rattle.dsi_frame.specs.Frame.{Frame}
use Rattle.dsi_frame.specs.Stream.{Stopped}
use Rattle.dsi_frame.specs.Buffered.{Buffered}
use Rattle.dsi_frame.specs.Deframe.{GivenOut}

-- the frames of the stream so far were given out, or they end at a bad header
abbrev pub GivenOutTo : List ℕ → List Frame → Buffered → Option BadFrame → Type 0
GivenOutTo bytes frames b None = GivenOut bytes frames b
GivenOutTo bytes frames b (Some bad) = Stopped bytes frames bad.at bad.reason
